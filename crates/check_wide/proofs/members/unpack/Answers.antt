-- `members::unpack`: an array of the entries' numbers.
use mathlib.Core.Path.{refl}
use mathlib.Core.List.{[]}
use Rattle.check_wide.specs.Packed.{three_of}
use Rattle.check_wide.proofs.Packing.{small-none, small-three}
use Rattle.check_wide.proofs.members.unpack.Goals as goal

pub returns : goal.returns
returns c =
    let a = c.args.entries in
    let z = three_of a.d [] in
    let y = three_of a.c z in
    let x = three_of a.b y in
    (refl, refl, refl, small-three a.a x (small-three a.b y (small-three a.c z (small-three a.d [] small-none))))
