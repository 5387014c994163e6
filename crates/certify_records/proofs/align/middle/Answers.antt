-- `certify_records::align::middle` meets its contract.
use mathlib.Core.Path.{refl, ap, ◌∙◌}
use Prim.Native.Nat.{ℕ}
use Rattle.evaluate.specs.Lane.{lane}
use Rattle.certify_records.proofs.Tables.{exchange-law}
use Rattle.certify_records.proofs.Records.{middle-says}
use Rattle.certify_records.proofs.align.middle.Goals as goal

pub returns : goal.returns
returns c =
    let r = c.args.known in
    let t = c.exchange.result in
    record {
      says = middle-says r.table t r.first r.second r.third r.fourth
          (λ l h. ap (λ (k : ℕ). lane l k) c.exchange.ensures ∙ exchange-law r.table 8 0x0000_ff00_0000_ff00 1 tt l h);
      is = rw c.exchange.ensures refl;
    }
