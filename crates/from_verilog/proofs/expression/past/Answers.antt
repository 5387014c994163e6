-- By the kind.
use Rattle.std.proofs.Common.{refl, sym, ◌∙◌}
use Rattle.from_verilog.specs.declared.tokens.Kind.TheVariants.{Not}
use Rattle.from_verilog.proofs.KindTests.{is_kind, no_kind}
use Rattle.from_verilog.proofs.Firsts.{never}
use Rattle.from_verilog.proofs.expression.past.Goals as goal

pub returns-then-eq : goal.returns-then-eq
returns-then-eq c = record {
  negated = λ e. c.next.ensures;
  plain
      = λ e. absurd (never (sym (is_kind c.args.token.kind Not c.if-eq.ensures) ∙ e));
}

pub returns : goal.returns
returns c = record {
  negated = λ e. absurd (never (sym e ∙ no_kind c.args.token.kind Not c.if-eq.ensures));
  plain
      = λ e. refl;
}
