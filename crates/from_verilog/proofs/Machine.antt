-- The recogniser over the numbers of kinds is the recogniser.
use Prim.Native.Nat.{ℕ, zero, suc, ◌+◌, ◌≤◌}
use mathlib.Core.Path.{◌≡◌, refl, sym, ap, subst, ◌∙◌}
use mathlib.Core.Bool.{false}
use mathlib.Core.List.{List, [], ◌∷◌}
use mathlib.Core.Option.{none, some}
use native.Mathlib.Omega.{arith}
use lib.Dec.{leb}
use borrow.Author.Tests.{leb-true, leb-false}
use Rattle.netlist.specs.Lists.{same_bytes}
use Rattle.netlist.proofs.Tests.{on_bool}
use Rattle.netlist.proofs.Questions.{none-some, some_same}
use Rattle.verilog.specs.Tokens.{Token, name, mark, marks}
use Rattle.verilog.specs.Parse.{Move, follow}
use Rattle.verilog.specs.Walk.{Phase, Shape, at, flat, turns, after_word, turn, is_end, operators_in, on_module}
use Rattle.verilog.specs.Walk.{on_title, on_ports, on_port, after_port, on_head_end, on_item, on_assign, on_name}
use Rattle.verilog.specs.Walk.{after_name, on_target, on_equals, on_operand, on_negated, after_operand, on_nothing}
use Rattle.from_verilog.specs.Next.{token_of}
use Rattle.from_verilog.proofs.Firsts.{EachMark, by_code}
use Rattle.from_verilog.specs.declared.form.Phase as P
use Rattle.from_verilog.specs.declared.form.Phase.TheVariants.{OnModule, OnTitle, OnPorts, OnPort, BehindPort}
use Rattle.from_verilog.specs.declared.form.Phase.TheVariants.{OnHeadEnd, OnItem, OnAssign, OnName, BehindName}
use Rattle.from_verilog.specs.declared.form.Phase.TheVariants.{OnTarget, OnEquals, OnOperand, OnNegated, BehindOperand}
use Rattle.from_verilog.specs.declared.form.Phase.TheVariants.{OnNothing}
use Rattle.from_verilog.specs.Turns.{phase_of, stepped, operator_code}

-- outside expressions no parenthesis is open
abbrev pub depth_of : Phase → ℕ → ℕ
depth_of on_module k = 0
depth_of on_title k = 0
depth_of on_ports k = 0
depth_of on_port k = 0
depth_of after_port k = 0
depth_of on_head_end k = 0
depth_of on_item k = 0
depth_of on_assign k = 0
depth_of on_name k = 0
depth_of after_name k = 0
depth_of on_target k = 0
depth_of on_equals k = 0
depth_of on_operand k = k
depth_of on_negated k = k
depth_of after_operand k = k
depth_of on_nothing k = 0

-- what the numbers say of a token
Turned : Phase → ℕ → ℕ → Token → Type 0
Turned p k c x = turn (at p k) x ≡ stepped p c k

all-turned : (p : Phase) (k : ℕ) → EachMark (Turned p (depth_of p k)) 0 marks
unfolding Turned
all-turned on_module k
    = (refl, (refl, (refl, (refl, (refl, (refl, (refl, (refl, (refl, (refl, (refl, (refl, (refl, (refl, tt))))))))))))))
all-turned on_title k
    = (refl, (refl, (refl, (refl, (refl, (refl, (refl, (refl, (refl, (refl, (refl, (refl, (refl, (refl, tt))))))))))))))
all-turned on_ports k
    = (refl, (refl, (refl, (refl, (refl, (refl, (refl, (refl, (refl, (refl, (refl, (refl, (refl, (refl, tt))))))))))))))
all-turned on_port k =
    (refl, (refl, (refl, (refl, (refl, (refl, (refl, (refl, (refl, (refl, (refl, (refl, (refl, (refl, tt))))))))))))))
all-turned after_port k
    = (refl, (refl, (refl, (refl, (refl, (refl, (refl, (refl, (refl, (refl, (refl, (refl, (refl, (refl, tt))))))))))))))
all-turned on_head_end k
    = (refl, (refl, (refl, (refl, (refl, (refl, (refl, (refl, (refl, (refl, (refl, (refl, (refl, (refl, tt))))))))))))))
all-turned on_item k =
    (refl, (refl, (refl, (refl, (refl, (refl, (refl, (refl, (refl, (refl, (refl, (refl, (refl, (refl, tt))))))))))))))
all-turned on_assign k
    = (refl, (refl, (refl, (refl, (refl, (refl, (refl, (refl, (refl, (refl, (refl, (refl, (refl, (refl, tt))))))))))))))
all-turned on_name k =
    (refl, (refl, (refl, (refl, (refl, (refl, (refl, (refl, (refl, (refl, (refl, (refl, (refl, (refl, tt))))))))))))))
all-turned after_name k
    = (refl, (refl, (refl, (refl, (refl, (refl, (refl, (refl, (refl, (refl, (refl, (refl, (refl, (refl, tt))))))))))))))
all-turned on_target k
    = (refl, (refl, (refl, (refl, (refl, (refl, (refl, (refl, (refl, (refl, (refl, (refl, (refl, (refl, tt))))))))))))))
all-turned on_equals k
    = (refl, (refl, (refl, (refl, (refl, (refl, (refl, (refl, (refl, (refl, (refl, (refl, (refl, (refl, tt))))))))))))))
all-turned on_operand k
    = (refl, (refl, (refl, (refl, (refl, (refl, (refl, (refl, (refl, (refl, (refl, (refl, (refl, (refl, tt))))))))))))))
all-turned on_negated k
    = (refl, (refl, (refl, (refl, (refl, (refl, (refl, (refl, (refl, (refl, (refl, (refl, (refl, (refl, tt))))))))))))))
all-turned after_operand zero
    = (refl, (refl, (refl, (refl, (refl, (refl, (refl, (refl, (refl, (refl, (refl, (refl, (refl, (refl, tt))))))))))))))
all-turned after_operand (suc k)
    = (refl, (refl, (refl, (refl, (refl, (refl, (refl, (refl, (refl, (refl, (refl, (refl, (refl, (refl, tt))))))))))))))
all-turned on_nothing k
    = (refl, (refl, (refl, (refl, (refl, (refl, (refl, (refl, (refl, (refl, (refl, (refl, (refl, (refl, tt))))))))))))))

name-turned : (p : Phase) (k : ℕ) (w : List ℕ) → Turned p (depth_of p k) 15 (name w)
unfolding Turned
name-turned on_module k w = refl
name-turned on_title k w = refl
name-turned on_ports k w = refl
name-turned on_port k w = refl
name-turned after_port k w = refl
name-turned on_head_end k w = refl
name-turned on_item k w = refl
name-turned on_assign k w = refl
name-turned on_name k w = refl
name-turned after_name k w = refl
name-turned on_target k w = refl
name-turned on_equals k w = refl
name-turned on_operand k w = refl
name-turned on_negated k w = refl
name-turned after_operand k w = refl
name-turned on_nothing k w = refl

pub turned : (p : Phase) (k c : ℕ) (w : List ℕ) (x : Token) → depth_of p k ≡ k → token_of c w ≡ some x → turn (at p k) x
    ≡ stepped p c k
unfolding Turned
turned p k c w x d e = subst (λ (j : ℕ). Turned p j c x) d (by_code (Turned p (depth_of p k)) w (name-turned p k w)
    (all-turned p k) c x e)

-- ---- the phase after a token

abbrev Steady : Shape → Type 0
Steady s = depth_of s.phase s.depth ≡ s.depth

abbrev AllSteady : List (Move Shape) → Type 0
AllSteady [] = Unit {0}
AllSteady (c ∷ cs) = Steady c.to × AllSteady cs

follow-steady : (k : List ℕ) (cs : List (Move Shape)) (s : Shape) → AllSteady cs → follow k cs ≡ some s → Steady s
follow-steady k [] s f e = absurd (none-some s e)
follow-steady k (c ∷ cs) s f e =
    on_bool (same_bytes k c.at)
    (λ h. subst Steady (some_same c.to s (rw h at e)) f.0)
    (λ h. follow-steady k cs s f.1 (rw h at e))

moves-steady : (p : Phase) (k : ℕ) → AllSteady (turns p k)
moves-steady on_module k = (refl, tt)
moves-steady on_title k = tt
moves-steady on_ports k = (refl, tt)
moves-steady on_port k = tt
moves-steady after_port k = (refl, (refl, tt))
moves-steady on_head_end k = (refl, tt)
moves-steady on_item k = (refl, (refl, (refl, (refl, (refl, tt)))))
moves-steady on_assign k = (refl, (refl, tt))
moves-steady on_name k = tt
moves-steady after_name k = (refl, (refl, tt))
moves-steady on_target k = tt
moves-steady on_equals k = (refl, tt)
moves-steady on_operand k = (refl, (refl, tt))
moves-steady on_negated k = (refl, tt)
moves-steady after_operand zero = (refl, (refl, (refl, tt)))
moves-steady after_operand (suc k) = (refl, (refl, (refl, tt)))
moves-steady on_nothing k = tt

word-steady : (p : Phase) (k : ℕ) (s : Shape) → after_word p k ≡ some s → Steady s
word-steady on_module k s e = absurd (none-some s e)
word-steady on_title k s e = subst Steady (some_same (flat on_ports) s e) refl
word-steady on_ports k s e = absurd (none-some s e)
word-steady on_port k s e = subst Steady (some_same (flat after_port) s e) refl
word-steady after_port k s e = absurd (none-some s e)
word-steady on_head_end k s e = absurd (none-some s e)
word-steady on_item k s e = absurd (none-some s e)
word-steady on_assign k s e = absurd (none-some s e)
word-steady on_name k s e = subst Steady (some_same (flat after_name) s e) refl
word-steady after_name k s e = absurd (none-some s e)
word-steady on_target k s e = subst Steady (some_same (flat on_equals) s e) refl
word-steady on_equals k s e = absurd (none-some s e)
word-steady on_operand k s e = subst Steady (some_same (at after_operand k) s e) refl
word-steady on_negated k s e = subst Steady (some_same (at after_operand k) s e) refl
word-steady after_operand k s e = absurd (none-some s e)
word-steady on_nothing k s e = absurd (none-some s e)

pub turn-steady : (p : Phase) (k : ℕ) (x : Token) (s : Shape) → turn (at p k) x ≡ some s → depth_of s.phase s.depth
    ≡ s.depth
turn-steady p k (name w) s e = word-steady p k s e
turn-steady p k (mark m) s e = follow-steady m (turns p k) s (moves-steady p k) e

-- ---- the last phase

pub end-other : (p : P.Phase) → (p ≡ OnNothing → ⊥) → is_end (phase_of p) ≡ false
end-other OnModule h = refl
end-other OnTitle h = refl
end-other OnPorts h = refl
end-other OnPort h = refl
end-other BehindPort h = refl
end-other OnHeadEnd h = refl
end-other OnItem h = refl
end-other OnAssign h = refl
end-other OnName h = refl
end-other BehindName h = refl
end-other OnTarget h = refl
end-other OnEquals h = refl
end-other OnOperand h = refl
end-other OnNegated h = refl
end-other BehindOperand h = refl
end-other OnNothing h = absurd (h refl)

-- ---- operators

pub operator-coded : (ts : List Token) (c : ℕ) (w : List ℕ) (x : Token) → token_of c w ≡ some x → operators_in (x ∷ ts)
    ≡ operator_code c + operators_in ts
operator-coded ts c w x e = by_code (λ c x. operators_in (x ∷ ts) ≡ operator_code c + operators_in ts) w (omega arith) (
  omega arith,
  (
    omega arith,
    (
      omega arith,
      (
        omega arith,
        (
          omega arith,
          (
            omega arith,
            (
              omega arith,
              (
                omega arith,
                (omega arith, (omega arith, (omega arith, (omega arith, (omega arith, (omega arith, tt)))))),
              ),
            ),
          ),
        ),
      ),
    ),
  ),
) c x e

-- ---- no token

other-stepped : (p : Phase) (k : ℕ) → stepped p 16 k ≡ none
other-stepped on_module k = refl
other-stepped on_title k = refl
other-stepped on_ports k = refl
other-stepped on_port k = refl
other-stepped after_port k = refl
other-stepped on_head_end k = refl
other-stepped on_item k = refl
other-stepped on_assign k = refl
other-stepped on_name k = refl
other-stepped after_name k = refl
other-stepped on_target k = refl
other-stepped on_equals k = refl
other-stepped on_operand k = refl
other-stepped on_negated k = refl
other-stepped after_operand k = refl
other-stepped on_nothing k = refl

-- after no token comes nothing
pub stepped-token : (p : Phase) (c k : ℕ) (s : Shape) → c ≤ 16 → some s ≡ stepped p c k → c ≤ 15
stepped-token p c k s l e =
    on_bool (leb c 15) (leb-true c 15)
    (λ h. let g = leb-false c 15 h in
    let z : c ≡ 16 = omega (arith, g) in
    absurd (none-some s (sym (e ∙ ap (λ (n : ℕ). stepped p n k) z ∙ other-stepped p k))))
