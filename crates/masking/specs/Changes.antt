-- The mask changes of a masking: of operands and of outputs (docs/RULES.md, Masking a source). The
-- gates of public bits are none.
use Rattle.std.specs.Prelude.{ℕ, ◌+◌, cond, List, [], ◌∷◌, eqb}
use Rattle.netlist.specs.declared.Gate.{Gate}
use Rattle.netlist.specs.declared.Gate.TheVariants.{Xor, And, Inv, Eqw, Eq}
use Rattle.netlist.specs.declared.Twin.{Twin}
use Rattle.netlist.specs.Netlist.{Netlist}
use Rattle.masking.specs.Mask.{changes, State, twin, advance, start, out_twins}
use Rattle.netlist.specs.Eval.{bit}

-- 1 for a gate of two operands whose twins have equal codes
abbrev pub one_change : State → Gate → ℕ
one_change S (Xor a b c) = bit (changes (twin S a) (twin S b))
one_change S (And a b c) = bit (changes (twin S a) (twin S b))
one_change S (Inv a c) = 0
one_change S (Eqw a c) = 0
one_change S (Eq v c) = 0

-- how many mask changes of an operand the gates get, from a state on
abbrev pub changed_operands : State → List Gate → ℕ
changed_operands S [] = 0
changed_operands S (g ∷ gs) = one_change S g + changed_operands (advance S g) gs

-- 1 for an output bit that is wanted with another code than its own, e
abbrev pub output_change : ℕ → ℕ → ℕ
output_change e want = cond (eqb want 0) 0 (cond (eqb want e) 0 1)

-- how many output bits get a mask change
abbrev pub changed_outputs : List Twin → List ℕ → ℕ
changed_outputs [] ws = 0
changed_outputs (t ∷ ts) [] = 0
changed_outputs (t ∷ ts) (w ∷ ws) = output_change t.code w + changed_outputs ts ws

-- both together, of a source masked with these codes
unfoldable pub mask_changes : Netlist → List ℕ → List ℕ → ℕ
mask_changes N codes wanted = changed_operands (start N codes) N.gates + changed_outputs (out_twins N codes) wanted
