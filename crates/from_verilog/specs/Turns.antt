-- The recogniser over phases and the numbers of kinds of tokens.
use Rattle.std.specs.Prelude.{ℕ, zero, suc, ◌≡◌, true, false, cond, List, eqb, leb, Option, Some, None}
use Rattle.std.proofs.Math.Option as M
use Rattle.verilog.specs.Tokens.{Token, tokens}
use Rattle.verilog.specs.Walk as W
use Rattle.verilog.specs.Walk.{Shape, at, flat, accepted, deepest, operators_in}
use Rattle.from_verilog.specs.declared.form.Phase.{Phase}
use Rattle.from_verilog.specs.declared.form.Phase.TheVariants as P
use Rattle.from_verilog.specs.declared.form.Step.{Step}
use Rattle.from_verilog.specs.declared.form.Scan.{Scan}

abbrev pub phase_of : Phase → W.Phase
phase_of P.OnModule = W.on_module
phase_of P.OnTitle = W.on_title
phase_of P.OnPorts = W.on_ports
phase_of P.OnPort = W.on_port
phase_of P.BehindPort = W.after_port
phase_of P.OnHeadEnd = W.on_head_end
phase_of P.OnItem = W.on_item
phase_of P.OnAssign = W.on_assign
phase_of P.OnName = W.on_name
phase_of P.BehindName = W.after_name
phase_of P.OnTarget = W.on_target
phase_of P.OnEquals = W.on_equals
phase_of P.OnOperand = W.on_operand
phase_of P.OnNegated = W.on_negated
phase_of P.BehindOperand = W.after_operand
phase_of P.OnNothing = W.on_nothing

abbrev pub lower : ℕ → M.Option Shape
lower zero = M.none
lower (suc k) = M.some (at W.after_operand k)

abbrev pub level : ℕ → M.Option Shape
level zero = M.some (flat W.on_assign)
level (suc k) = M.none

-- the shape after a token of a kind by its number, none where it may not come
abbrev pub stepped : W.Phase → ℕ → ℕ → M.Option Shape
stepped W.on_module c k = cond (eqb c 1) (M.some (at W.on_title k)) M.none
stepped W.on_title c k = cond (eqb c 15) (M.some (at W.on_ports k)) M.none
stepped W.on_ports c k = cond (eqb c 7) (M.some (at W.on_port k)) M.none
stepped W.on_port c k = cond (eqb c 15) (M.some (at W.after_port k)) M.none
stepped W.after_port c k = cond (eqb c 10) (M.some (at W.on_port k))
    (cond (eqb c 8) (M.some (at W.on_head_end k)) M.none)
stepped W.on_head_end c k = cond (eqb c 9) (M.some (at W.on_item k)) M.none
stepped W.on_item c k =
    cond (eqb c 5) (M.some (at W.on_target k)) (cond (eqb c 6) (M.some (at W.on_nothing k))
    (cond (eqb c 2) (M.some (at W.on_name k))
    (cond (eqb c 3) (M.some (at W.on_name k)) (cond (eqb c 4) (M.some (at W.on_name k)) M.none))))
stepped W.on_assign c k = cond (eqb c 5) (M.some (at W.on_target k))
    (cond (eqb c 6) (M.some (at W.on_nothing k)) M.none)
stepped W.on_name c k = cond (eqb c 15) (M.some (at W.after_name k)) M.none
stepped W.after_name c k = cond (eqb c 10) (M.some (at W.on_name k)) (cond (eqb c 9) (M.some (at W.on_item k)) M.none)
stepped W.on_target c k = cond (eqb c 15) (M.some (at W.on_equals k)) M.none
stepped W.on_equals c k = cond (eqb c 11) (M.some (at W.on_operand k)) M.none
stepped W.on_operand c k =
    cond (eqb c 15) (M.some (at W.after_operand k)) (cond (eqb c 7) (M.some (at W.on_operand (suc k)))
    (cond (eqb c 12) (M.some (at W.on_negated k)) M.none))
stepped W.on_negated c k = cond (eqb c 15) (M.some (at W.after_operand k))
    (cond (eqb c 7) (M.some (at W.on_operand (suc k))) M.none)
stepped W.after_operand c k =
    cond (eqb c 13) (M.some (at W.on_operand k)) (cond (eqb c 14) (M.some (at W.on_operand k)) (cond (eqb c 8) (lower k)
    (cond (eqb c 9) (level k) M.none)))
stepped W.on_nothing c k = M.none

abbrev pub said : Option Step → M.Option Shape
said None = M.none
said (Some s) = M.some (at (phase_of s.phase) s.depth)

abbrev pub operator_code : ℕ → ℕ
operator_code c = cond (leb 12 c) (cond (leb c 14) 1 0) 0

pub record Counted (t : List ℕ) (most count : ℕ) : Type 0 where
  pub all : List Token
  pub read : tokens t ≡ M.some all
  pub depth : most ≡ deepest all (flat W.on_module)
  pub operators : count ≡ operators_in all

-- the answer to question 16, and of an accepted text the most open parentheses and the number of operators
abbrev pub ScanIs : List ℕ → Option Scan → Type 0
ScanIs t None = accepted t (flat W.on_module) ≡ false
ScanIs t (Some r) = (accepted t (flat W.on_module) ≡ true) × Counted t r.deepest r.operators
