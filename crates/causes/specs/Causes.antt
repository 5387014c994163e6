-- Which wires leak, and which of these are causes (docs/RULES.md, Leaks).
use Rattle.std.specs.Prelude.{ℕ, ◌^◌, Bool, true, false, cond, ◌&&◌, ◌||◌, List, [], ◌∷◌, eqb, length}
use Rattle.netlist.specs.declared.Gate.{Gate}
use Rattle.netlist.specs.declared.Gate.TheVariants.{Xor, And, Inv, Eqw, Eq}
use Rattle.netlist.specs.Lists.{below}
use Rattle.netlist.specs.Netlist.{Netlist, result}
use Rattle.masking.specs.Leak.{count_at, base_at}
use Rattle.evaluate.specs.Lane.{up_to}

-- wire w has its base's count in every setting
abbrev pub level : Netlist → List ℕ → ℕ → Bool
level N codes w = below (2 ^ length codes) (λ s. eqb (base_at N codes w s) (count_at N codes w s))

-- every wire that a gate reads passes a test
abbrev pub operands_pass : (ℕ → Bool) → Gate → Bool
operands_pass u (Xor a b c) = u a && u b
operands_pass u (And a b c) = u a && u b
operands_pass u (Inv a c) = u a
operands_pass u (Eqw a c) = u a
operands_pass u (Eq v c) = true

-- a gate gives wire w, and every wire that it reads passes a test
abbrev pub begins : (ℕ → Bool) → Gate → ℕ → Bool
begins u g w = eqb (result g) w && operands_pass u g

-- some gate does
abbrev pub some_begins : (ℕ → Bool) → List Gate → ℕ → Bool
some_begins u [] w = false
some_begins u (g ∷ gs) w = begins u g w || some_begins u gs w

-- of a wire, by a test of the wires that do not leak: 0 where it passes; 2 where it leaks and a gate gives it none of
-- whose operands leaks, so that it is a cause; 1 for any other that leaks
abbrev pub verdict : (ℕ → Bool) → List Gate → ℕ → ℕ
verdict u gs w = cond (u w) 0 (cond (some_begins u gs w) 2 1)

-- the verdicts on all wires
unfoldable pub verdicts : Netlist → List ℕ → List ℕ
verdicts N codes = up_to N.wires (verdict (level N codes) N.gates)
