-- The end, a word, or a sign.
use Rattle.std.proofs.Common.{rules, ℕ, subst, sym, ◌∙◌, ◌+◌}
use Rattle.verilog.specs.Tokens.{in_word}
use Rattle.text.proofs.Cursors.{places}
use Rattle.from_verilog.specs.Next.{TokenAt}
use Rattle.from_verilog.proofs.Nexts.{at-end, at-word, at_sign, word_on}
use Rattle.from_verilog.proofs.tokens.next.Goals as goal

pub returns-then-text-from : goal.returns-then-text-from
returns-then-text-from c = at-end _ _ _ c.skip_white-from.ensures c.if-text-from.true

pub returns-then-not-in_word : goal.returns-then-not-in_word
returns-then-not-in_word c =
    let t = c.args.text.now in
    let from = c.skip_white-from.result in
    subst (λ (k : ℕ). TokenAt t c.args.at k from (from + 1)) (sym c.sign.ensures)
    (at_sign _ _ _ c.skip_white-from.ensures c.if-text-from.false (sym c.in_word.ensures ∙ c.if-not-in_word.true))

pub word-requires : goal.word-requires
word-requires c =
    let on = word_on _ _ _ c.skip_white-from.ensures c.if-text-from.false
    (sym c.in_word.ensures ∙ c.if-not-in_word.false) _ (places in_word _ _ c.take_word-end.ensures) in search rules

pub returns : goal.returns
returns c =
    let t = c.args.text.now in
    let from = c.skip_white-from.result in
    let to = c.take_word-end.result.at in
    subst (λ (k : ℕ). TokenAt t c.args.at k from to) (sym c.word.ensures)
    (at-word _ _ _ c.skip_white-from.ensures c.if-text-from.false (sym c.in_word.ensures ∙ c.if-not-in_word.false) _
    (places in_word _ _ c.take_word-end.ensures))
