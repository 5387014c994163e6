-- `certify_records::align::low` meets its contract.
use mathlib.Core.Path.{refl, ap, ◌∙◌}
use Prim.Native.Nat.{ℕ}
use Rattle.evaluate.specs.Lane.{lane}
use Rattle.certify_records.proofs.Tables.{exchange-law}
use Rattle.certify_records.proofs.Records.{low-says}
use Rattle.certify_records.proofs.align.low.Goals as goal

pub returns : goal.returns
returns c =
    let r = c.args.known in
    let t = c.exchange.result in
    record {
      says = low-says r.table t r.first r.second r.third r.fourth
          (λ l h. ap (λ (k : ℕ). lane l k) c.exchange.ensures ∙ exchange-law r.table 4 0x00f0_00f0_00f0_00f0 0 tt l h);
      is = rw c.exchange.ensures refl;
    }
