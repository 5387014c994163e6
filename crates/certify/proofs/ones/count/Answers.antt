-- `certify_netlist::ones::count` meets its contract.
use Prim.Native.Nat.{ℕ, ◌/◌, ◌^◌}
use mathlib.Core.Path.{◌≡◌, ◌∙◌}
use borrow.Author.Rules.{rules}
use lib.Dec.{eqb}
use lib.Bits.{bit_and}
use lib.ListN.{get_or}
use Rattle.std.specs.List.{count_by}
use Rattle.evaluate.specs.Lane.{lane}
use Rattle.certify.proofs.Counting.{counted, lane_test}
use Rattle.certify.proofs.ones.count.Goals as goal

pub returns : goal.returns
returns c =
    let j = c.args.place in
    let words = c.args.words.now in
    let p = λ (n : ℕ). eqb (bit_and (n / 2 ^ j) 1) 1 in
    let e : c.count.result ≡ count_by p words = search rules in
    e ∙ counted p (λ i. lane j (get_or words i 0)) words (λ i. lane_test j (get_or words i 0))
