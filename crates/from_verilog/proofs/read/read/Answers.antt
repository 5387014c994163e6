-- One question after another.
use Rattle.std.proofs.Common.{arith, ◌≡◌, ◌*◌, drop, length-append, sym}
use lib.Seq.{length-take-le}
use Rattle.std.proofs.lemmas.Result.{err_from_is_err_and}
use Rattle.netlist.specs.declared.Refusal.TheVariants.{Grammar, Names}
use Rattle.from_verilog.proofs.Answers.{long-text, no-form, tree, rules-broken, at, too-deep, no-room, few-wires}
use Rattle.from_verilog.proofs.Answers.{netlist-read}
use Rattle.from_verilog.proofs.ReadVerilogCutting.{cut-length, rules-cut}
use Rattle.from_verilog.proofs.Made.{gates-put}
use Rattle.from_verilog.proofs.read.read.Goals as goal

pub returns-then-call_limits-text : goal.returns-then-call_limits-text
returns-then-call_limits-text c = long-text c.args.call_limits c.args.text.now c.if-call_limits-text.true

pub returns-in_err-form : goal.returns-in_err-form
returns-in_err-form c =
    let e = c.in_err-form.ensures in
    let p = err_from_is_err_and c.from_residual.result c.from_residual.ensures.1 in
    let d : c.in_err-form.field-0.0 ≡ Grammar = cc (rw e.ok_part at e.value) in
    rw (p.1, p.2, d) (no-form c.args.call_limits c.args.text.now (omega (arith, c.if-call_limits-text.false))
    (rw e.ok_part at c.walk.ensures))

pub returns-in_err-k : goal.returns-in_err-k
returns-in_err-k c =
    let T = tree c.args.call_limits c.args.text.now (omega (arith, c.if-call_limits-text.false))
    (rw c.in_ok-form.ensures.ok_part at c.walk.ensures) in
    let e = c.in_err-k.ensures in
    let p = err_from_is_err_and c.from_residual-in_err-k.result c.from_residual-in_err-k.ensures.1 in
    let d : c.in_err-k.field-0.0 ≡ Names = cc (rw e.ok_part at e.value) in
    rw (p.1, p.2, d) (rules-broken T (rw e.ok_part at c.rules.ensures))

pub returns-then-form-gt-DEEPEST : goal.returns-then-form-gt-DEEPEST
returns-then-form-gt-DEEPEST c =
    let T = tree c.args.call_limits c.args.text.now (omega (arith, c.if-call_limits-text.false))
    (rw c.in_ok-form.ensures.ok_part at c.walk.ensures) in
    let K = rw c.in_ok-k.ensures.ok_part at c.rules.ensures in
    too-deep T K c.if-form-gt-DEEPEST.true

pub overflow_add-gates : goal.overflow_add-gates
overflow_add-gates c =
    let T = tree c.args.call_limits c.args.text.now (omega (arith, c.if-call_limits-text.false))
    (rw c.in_ok-form.ensures.ok_part at c.walk.ensures) in
    omega (arith, T.few, c.requires.limits.2, c.if-call_limits-text.false)

pub admitted-requires : goal.admitted-requires
admitted-requires c =
    let T = tree c.args.call_limits c.args.text.now (omega (arith, c.if-call_limits-text.false))
    (rw c.in_ok-form.ensures.ok_part at c.walk.ensures) in
    omega (arith, T.few, c.requires.limits.2, c.if-call_limits-text.false)

pub returns-in_err-numbers : goal.returns-in_err-numbers
returns-in_err-numbers c =
    let T = tree c.args.call_limits c.args.text.now (omega (arith, c.if-call_limits-text.false))
    (rw c.in_ok-form.ensures.ok_part at c.walk.ensures) in
    let K = rw c.in_ok-k.ensures.ok_part at c.rules.ensures in
    let p = err_from_is_err_and c.from_residual-in_err-numbers.result c.from_residual-in_err-numbers.ensures.1 in
    let e = c.in_err-numbers.ensures in
    rw (p.1, p.2, e.1) (no-room T K (omega (arith, c.if-form-gt-DEEPEST.false)) e.0)

pub slice_bounds-names-end : goal.slice_bounds-names-end
slice_bounds-names-end c =
    let T = tree c.args.call_limits c.args.text.now (omega (arith, c.if-call_limits-text.false))
    (rw c.in_ok-form.ensures.ok_part at c.walk.ensures) in
    let N = (at T (rw c.in_ok-k.ensures.ok_part at c.rules.ensures)).names in
    let l = length-append c.rules.new.words (drop (c.args.call_limits.table * 8) c.args.words.now) in
    omega (arith, N.worded, l)

pub slice_bounds-names-end-2 : goal.slice_bounds-names-end-2
slice_bounds-names-end-2 c =
    let T = tree c.args.call_limits c.args.text.now (omega (arith, c.if-call_limits-text.false))
    (rw c.in_ok-form.ensures.ok_part at c.walk.ensures) in
    let N = (at T (rw c.in_ok-k.ensures.ok_part at c.rules.ensures)).names in
    let l = length-append c.rules.new.words (drop (c.args.call_limits.table * 8) c.args.words.now) in
    sym (length-take-le _ _ (omega (arith, N.worded, l)))

pub slice_bounds-names-end-3 : goal.slice_bounds-names-end-3
slice_bounds-names-end-3 c =
    let T = tree c.args.call_limits c.args.text.now (omega (arith, c.if-call_limits-text.false))
    (rw c.in_ok-form.ensures.ok_part at c.walk.ensures) in
    let N = (at T (rw c.in_ok-k.ensures.ok_part at c.rules.ensures)).names in
    N.linked

pub slice_bounds-names-end-4 : goal.slice_bounds-names-end-4
slice_bounds-names-end-4 c =
    let T = tree c.args.call_limits c.args.text.now (omega (arith, c.if-call_limits-text.false))
    (rw c.in_ok-form.ensures.ok_part at c.walk.ensures) in
    let N = (at T (rw c.in_ok-k.ensures.ok_part at c.rules.ensures)).names in
    sym (length-take-le _ _ N.linked)

pub invariant_of-names : goal.invariant_of-names
invariant_of-names c =
    let T = tree c.args.call_limits c.args.text.now (omega (arith, c.if-call_limits-text.false))
    (rw c.in_ok-form.ensures.ok_part at c.walk.ensures) in
    let K = rules-cut (drop (c.args.call_limits.table * 8) c.args.words.now)
    (rw c.in_ok-k.ensures.ok_part at c.rules.ensures) in
    let e = cut-length _ _ (at T K).names.worded in
    record { chained = rw (e, c.rules.auto.heads) (at T K).names }

pub equations-requires : goal.equations-requires
equations-requires c =
    let T = tree c.args.call_limits c.args.text.now (omega (arith, c.if-call_limits-text.false))
    (rw c.in_ok-form.ensures.ok_part at c.walk.ensures) in
    let K = rules-cut (drop (c.args.call_limits.table * 8) c.args.words.now)
    (rw c.in_ok-k.ensures.ok_part at c.rules.ensures) in
    let A = at T K in
    let e = cut-length _ _ A.names.worded in
    let b = c.requires.limits in
    let few = few-wires T K (omega (arith, c.if-form-gt-DEEPEST.false)) c.in_ok-numbers.ensures.0 in
    record {
      wired = omega (arith, e, A.wired);
      within = A.assigns_within;
      first = omega arith;
      room
          = omega (arith, b.2, c.if-call_limits-text.false, few);
    }

pub copies-requires : goal.copies-requires
copies-requires c =
    let T = tree c.args.call_limits c.args.text.now (omega (arith, c.if-call_limits-text.false))
    (rw c.in_ok-form.ensures.ok_part at c.walk.ensures) in
    let K = rules-cut (drop (c.args.call_limits.table * 8) c.args.words.now)
    (rw c.in_ok-k.ensures.ok_part at c.rules.ensures) in
    let A = at T K in
    let e = cut-length _ _ A.names.worded in
    let b = c.requires.limits in
    let few = few-wires T K (omega (arith, c.if-form-gt-DEEPEST.false)) c.in_ok-numbers.ensures.0 in (
      omega (arith, e, A.stated),
      omega (arith, e, A.wired, c.equations.auto.wires),
      A.ports_within,
      omega arith,
      omega (arith, b.2, c.if-call_limits-text.false, few),
    )

pub returns : goal.returns
returns c =
    let T = tree c.args.call_limits c.args.text.now (omega (arith, c.if-call_limits-text.false))
    (rw c.in_ok-form.ensures.ok_part at c.walk.ensures) in
    let K = rules-cut (drop (c.args.call_limits.table * 8) c.args.words.now)
    (rw c.in_ok-k.ensures.ok_part at c.rules.ensures) in
    let e = cut-length _ _ (at T K).names.worded in
    let b = c.requires.limits in
    let n = c.in_ok-numbers.ensures in
    rw n.1 (netlist-read T K (omega (arith, c.if-form-gt-DEEPEST.false)) n.0 b.3 b.4 (omega (arith, b.2))
    (gates-put (rw e at c.equations.ensures) (rw e at c.copies.ensures)))
