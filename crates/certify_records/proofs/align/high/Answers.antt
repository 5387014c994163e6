-- `certify_records::align::high` meets its contract.
use mathlib.Core.Path.{refl, ap, ◌∙◌}
use Prim.Native.Nat.{ℕ}
use Rattle.evaluate.specs.Lane.{lane}
use Rattle.certify_records.proofs.Tables.{exchange-law}
use Rattle.certify_records.proofs.Records.{high-says}
use Rattle.certify_records.proofs.align.high.Goals as goal

pub returns : goal.returns
returns c =
    let r = c.args.known in
    let t = c.exchange.result in
    record {
      says = high-says r.table t r.first r.second r.third r.fourth
          (λ l h. ap (λ (k : ℕ). lane l k) c.exchange.ensures ∙ exchange-law r.table 16 0x0000_0000_ffff_0000 2 tt l h);
      is = rw c.exchange.ensures refl;
    }
