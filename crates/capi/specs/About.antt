-- The version, and the words of a refusal.
use Rattle.std.specs.Prelude.{ℕ, Option, Some, None, ◌≡◌, cond, List, [], ℤ, pos, leb, length}
use Rattle.std.proofs.lemmas.List.Edits.{sets}
use Rattle.netlist.specs.declared.Refusal.{Refusal}
use Rattle.netlist.specs.Refusal.{number_of, words_of}

-- 1.0.0
abbrev pub version : ℕ
version = 10000

-- the refusal of a number, or none where no refusal has it
abbrev pub Named : ℕ → Option Refusal → Type 0
Named n (Some q) = number_of q ≡ n
Named n None = (q : Refusal) → number_of q ≡ n → ⊥

-- the length of words is told, and they go to the front of a buffer that can hold them
pub record Told (words before after : List ℕ) (r : ℤ) : Type 0 where
  pub count : r ≡ pos (length words)
  pub buffer : after ≡ sets before 0 (cond (leb (length words) (length before)) words [])

abbrev pub words_for : Option Refusal → List ℕ
words_for (Some q) = words_of q
words_for None = []

-- the words of the refusal that has the number, or of none
pub record RefusalIs (n : ℕ) (before after : List ℕ) (r : ℤ) : Type 0 where
  pub refusal : Option Refusal
  pub named : Named n refusal
  pub told : Told (words_for refusal) before after r
