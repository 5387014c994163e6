-- `deliver`: questions 11, 13, 22 and 14 in order, then the choice and its results.
use mathlib.Core.Path.{sym, ◌∙◌}
use Rattle.fewest.proofs.Standing.{left-some}
use Rattle.mask_fewest.proofs.Promised.{fewest-14-inputs, source-read, chosen-source, chosen-masked, fewest-14}
use native.Mathlib.Omega.{arith}
use lib.ListN.{length}
use lib.Seq.{length-take-le}
use Rattle.mask_fewest.proofs.Giving.{source-codes}
use Rattle.mask_fewest.proofs.deliver.Goals as goal

pub returns-then-in_codes-codes : goal.returns-then-in_codes-codes
returns-then-in_codes-codes c =
    let s =
    c.args in let p = sym c.free_codes.ensures ∙ c.if-not-free_codes.false in
    let q = sym c.valid_wanted.ensures ∙ c.if-not-valid_wanted.false in
    let o = left-some s.budget c.if-budget-eq0.false in λ N a. fewest-14-inputs a s.codes.now s.wanted.now s.budget
    s.out.now s.in_codes.now
    s.out_codes.now s.tally.now p q o c.if-in_codes-codes.true

pub returns : goal.returns
returns c =
    let t = c.args in
    let R = c.choose-r in
    let e = c.new-source.ensures in
    let p = sym c.free_codes.ensures ∙ c.if-not-free_codes.false in
    let q = sym c.valid_wanted.ensures ∙ c.if-not-valid_wanted.false in
    let o = left-some t.budget c.if-budget-eq0.false in
    λ N a.
    let Q = source-read a t.codes.now t.wanted.now t.budget t.out.now t.in_codes.now t.out_codes.now t.tally.now p q in
    let C = R.ensures.1 N Q in
    let l = length-take-le (length t.codes.now) R.new.ways (omega arith) in
    fewest-14 a t.codes.now t.wanted.now t.budget t.out.now t.in_codes.now t.out_codes.now t.tally.now p q o C
    ((rw (e.0, e.1, e.2) at c.give.ensures) _
    (source-codes l (chosen-source a t.codes.now t.wanted.now t.budget t.out.now t.in_codes.now t.out_codes.now
    t.tally.now p q o C))
    (chosen-masked a t.codes.now t.wanted.now t.budget t.out.now t.in_codes.now t.out_codes.now t.tally.now p q o C))
