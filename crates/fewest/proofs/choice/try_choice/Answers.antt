-- `choice::try_choice`.
use Rattle.fewest.proofs.Trying.{entered-most}
use mathlib.Core.Path.{◌≡◌}
use native.Mathlib.Omega.{arith}
use Rattle.fewest.proofs.choice.try_choice.Goals as goal

pub count_changes-c-requires : goal.count_changes-c-requires
count_changes-c-requires c =
    let p =
    c.requires in let E = c.walk_from-stop in
    let e : E.result ≡ c.args.source.gates.count = omega (arith, E.ensures.walked.high, c.if-stop-source.false) in (
      omega (arith, p.fits.places, p.fits.lowest, p.fits.some, E.auto.least_before),
      omega (arith, p.fits.outs, E.auto.wire_codes),
      omega
          (arith, p.fits.outs, p.fits.small),
      (let m = rw e at (entered-most E.ensures) in omega (arith, p.place_in_bounds.1, p.fits.small, p.fits.places)),
    )
