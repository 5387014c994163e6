-- The check of pairs on small netlists, by computation.
use Prim.Native.Nat.{ℕ}
use mathlib.Core.Path.{◌≡◌, refl}
use mathlib.Core.List.{List, [], ◌∷◌, map}
use mathlib.Core.Option.{Option, none, some}
use Rattle.netlist.specs.declared.Gate.{Gate}
use Rattle.netlist.specs.declared.Gate.TheVariants.{Xor, And, Eqw, Eq}
use Rattle.netlist.specs.Netlist.{Netlist}
use Rattle.netlist.specs.Outcome.{Outcome, refused, done}
use Rattle.netlist.specs.Eval.{wire_bits}
use Rattle.masking.specs.Leak.{Found, count, leak}
use Rattle.check_pairs.specs.Pairs.{pair_count, clean_pair}
use Rattle.check_pairs.specs.Call.{BothAnswers, pairs_outcome}

-- k input bits, the mask pair and gates
wired : ℕ → ℕ → List Gate → Netlist
wired k W gs = record { wires = W; inputs = k ∷ 2 ∷ []; outputs = 1 ∷ []; gates = gs }

leaks : ℕ → ℕ → ℕ → ℕ → Option Found
leaks w s b o = some (record { wire = w; at = s; base = b; own = o })

answers : Option Found → Option ℕ → Outcome (BothAnswers Found)
answers l p = done (record { leak = l; pairs = p })

record Call : Type 0 where
  codes : List ℕ
  pairs : List ℕ
  netlist : Netlist
  outcome : Outcome (BothAnswers Found)

call : List ℕ → List ℕ → Netlist → Outcome (BothAnswers Found) → Call
call cs ws N o = record { codes = cs; pairs = ws; netlist = N; outcome = o }

-- A masked bit and then its mask; two bits under one mask, after a clean pair; under two masks; a leak on a wire, and
-- clean pairs beside it; a leak, and a bad pair; a public bit and its copy; no pairs; an odd list; a wire that is not
-- there; a code above 3 before both.
calls : List Call
calls =
    call (1 ∷ []) (0 ∷ 1 ∷ []) (wired 1 3 []) (answers none (some 0))
    ∷ call (1 ∷ 1 ∷ []) (0 ∷ 0 ∷ 0 ∷ 3 ∷ 0 ∷ 1 ∷ []) (wired 2 4 []) (answers none (some 2))
    ∷ call (1 ∷ 2 ∷ []) (0 ∷ 1 ∷ 2 ∷ 3 ∷ []) (wired 2 4 []) (answers none none)
    ∷ call (1 ∷ []) (0 ∷ 2 ∷ 1 ∷ 1 ∷ []) (wired 1 4 (Xor 0 1 3 ∷ [])) (answers (leaks 3 1 0 4) none)
    ∷ call (1 ∷ []) (0 ∷ 2 ∷ 3 ∷ 3 ∷ []) (wired 1 4 (Xor 0 1 3 ∷ [])) (answers (leaks 3 1 0 4) (some 1))
    ∷ call (0 ∷ []) (0 ∷ 3 ∷ []) (wired 1 4 (Eqw 0 3 ∷ [])) (answers none none)
    ∷ call (1 ∷ []) [] (wired 1 4 (And 0 1 3 ∷ [])) (answers (leaks 3 1 2 0) none)
    ∷ call (1 ∷ 1 ∷ []) (0 ∷ 0 ∷ 0 ∷ []) (wired 2 5 (Eq 1 4 ∷ [])) (refused 21)
    ∷ call (1 ∷ 1 ∷ []) (0 ∷ 5 ∷ []) (wired 2 5 (Eqw 0 4 ∷ [])) (refused 21)
    ∷ call (1 ∷ 4 ∷ []) (0 ∷ 5 ∷ 1 ∷ []) (wired 2 5 (Eqw 0 4 ∷ [])) (refused 11)
    ∷ []

examples : map (λ c. pairs_outcome c.codes c.pairs c.netlist) calls ≡ map (λ c. c.outcome) calls
unfolding calls call wired leaks answers leak clean_pair pair_count count wire_bits
examples = refl
