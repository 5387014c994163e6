-- The numbers before the entry are in the table.
use mathlib.Core.Path.{refl, sym, ◌∙◌}
use Rattle.from_aiger.proofs.NumberLines.{numbering_start, numbering-more, numbering-short, numbering-stray}
use Rattle.from_aiger.proofs.NumberLines.{numbering-long, numbering-end}
use Rattle.from_aiger.proofs.Places.{spaces-at, whole-at, none-at, more-at, end-at}
use Rattle.from_aiger.proofs.Strays.{stray-within}
use lib.ListN.{length-replicate}
use borrow.Author.Rules.{rules}
use native.Mathlib.Omega.{arith}
use Rattle.from_aiger.proofs.lines.Lines.numbers.Goals as goal

pub invariant_of-past_spaces : goal.invariant_of-past_spaces
invariant_of-past_spaces g c = record { within = omega (arith, c.args.self.clean, stray-within c.args.self.text.now) }

pub loop-entry-init : goal.loop-entry-init
loop-entry-init g c = (
  c.past_spaces-at.ensures.same,
  c.args.self.at,
  numbering_start _ _ _ _ (search rules) (length-replicate _ _),
  spaces-at refl c.past_spaces-at.ensures,
)

pub returns-in_err-v-clause-line : goal.returns-in_err-v-clause-line
returns-in_err-v-clause-line g c =
    let i = c.loop-entry.invariant in
    let none = none-at c.loop-entry.at i.0 c.in_err-v.ensures in
    rw c.from_residual.ensures (numbering-short i.2 i.3 (omega (arith, c.loop-entry-test.true, i.2.size)) none)

pub loop-entry-preserved : goal.loop-entry-preserved
loop-entry-preserved g c =
    let i = c.loop-entry.invariant in
    let same = c.in_ok-v.ensures.same ∙ i.0 in (
      c.past_spaces-at-in-loop-entry.ensures.same ∙ same,
      _,
      numbering-more i.2 i.3 _ _ (omega (arith, c.loop-entry-test.true, i.2.size)) (whole-at i.0 c.in_ok-v.ensures),
      spaces-at same c.past_spaces-at-in-loop-entry.ensures,
    )

pub returns-then-is_stray-clause-line : goal.returns-then-is_stray-clause-line
returns-then-is_stray-clause-line g c = let i = c.loop-entry.invariant
    in numbering-stray i.2 i.3 (sym c.is_stray.ensures ∙ c.if-is_stray.true)

pub returns-in_err-next-clause-line : goal.returns-in_err-next-clause-line
returns-in_err-next-clause-line g c =
    let i = c.loop-entry.invariant in
    let more = more-at c.loop-entry.at i.0 c.in_err-next.ensures in
    rw c.from_residual-in_err-next.ensures (numbering-long i.2 i.3 (omega (arith, c.loop-entry-test.false, i.2.size))
    more)

pub invariant_of-following : goal.invariant_of-following
invariant_of-following g c =
    let i = c.loop-entry.invariant in
    let end = end-at i.0 c.in_ok-next.ensures in
    record {
      clean = (numbering-end i.2 i.3 (omega (arith, c.loop-entry-test.false, i.2.size)) _
          (sym c.is_stray.ensures ∙ c.if-is_stray.false) end).1;
    }

pub returns-clause-line : goal.returns-clause-line
returns-clause-line g c =
    let i = c.loop-entry.invariant in
    let end = end-at i.0 c.in_ok-next.ensures in
    (numbering-end i.2 i.3 (omega (arith, c.loop-entry-test.false, i.2.size)) _
    (sym c.is_stray.ensures ∙ c.if-is_stray.false) end).0
