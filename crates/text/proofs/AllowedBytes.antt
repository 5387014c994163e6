-- Question 3, byte by byte.
use Prim.Native.Nat.{ℕ, zero, suc, ◌+◌, ◌<◌, ◌≤◌}
use mathlib.Core.Path.{◌≡◌, refl, sym, ap, ap₂, ◌∙◌}
use mathlib.Core.Bool.{Bool, true, false, ◌&&◌, ◌||◌, and_assoc}
use mathlib.Core.List.{List, [], ◌∷◌}
use native.Mathlib.Numerals.{add-one}
use native.Mathlib.Omega.{arith}
use lib.Bits.{bit_or}
use lib.Dec.{eqb}
use lib.ListN.{length, drop, get_or, drop_of_length-le}
use lib.Seq.{drop-cons}
use Rattle.netlist.specs.Lists.{every}
use Rattle.netlist.specs.Text.{lf, cr, at_lf}
use Rattle.netlist.specs.Read.{byte_allowed, bytes_allowed}
use Rattle.netlist.proofs.Tests.{clash}
use Rattle.netlist.proofs.LineEnds.{allowed-step}
use Rattle.text.specs.Answers.{allowed_before, fault_of}

-- ---- faults

-- what is asked of a text holds before place i, or not, which is what the faults tell
pub record Testing (q : List ℕ → Bool) (t : List ℕ) (faults i : ℕ) : Type 0 where
  pub passed : Bool
  pub told : faults ≡ fault_of passed
  pub all : (passed && q (drop i t)) ≡ q t
  pub within : i ≤ length t

module _ (q : List ℕ → Bool) (t : List ℕ) where
  pub testing-start : Testing q t 0 0
  testing-start = record { passed = true; told = refl; all = refl; within = omega arith }

  -- one byte more, which passes the test b or not
  pub testing-on : (faults fault i : ℕ) (b : Bool) → i < length t → q (drop i t) ≡ (b && q (drop (i + 1) t)) → fault
      ≡ fault_of b
      → Testing q t faults i → Testing q t (bit_or faults fault) (i + 1)
  testing-on faults fault i b h left e k = record {
    passed = k.passed && b;
    told = ap₂ bit_or k.told e ∙ both_told k.passed b;
    all = and_assoc k.passed b (q (drop (i + 1) t)) ∙ ap (◌&&◌ k.passed) (sym left) ∙ k.all;
    within = omega arith;
  }
    where
      both_told : (a b : Bool) → bit_or (fault_of a) (fault_of b) ≡ fault_of (a && b)
      both_told true true = refl
      both_told true false = refl
      both_told false true = refl
      both_told false false = refl

  pub testing-end : (faults i : ℕ) → q [] ≡ true → length t ≤ i → Testing q t faults i → eqb faults 0 ≡ q t
  testing-end faults i n h k = rw k.told (go k.passed ∙ k.all)
    where
      go : (b : Bool) → eqb (fault_of b) 0 ≡ (b && q (drop i t))
      go true = rw (drop_of_length-le t h) (sym n)
      go false = refl

-- ---- one byte more

at-lf : (t : List ℕ) (k : ℕ) → at_lf (drop k t) ≡ eqb (get_or t k 0) lf
at-lf [] zero = refl
at-lf [] (suc k) = refl
at-lf (x ∷ xs) zero = refl
at-lf (x ∷ xs) (suc k) = at-lf xs k

module _ (t : List ℕ) where
  pub plain-on : (faults fault i : ℕ) → i < length t → fault ≡ fault_of (byte_allowed (get_or t i 0))
      → Testing (every byte_allowed) t faults i
      → Testing (every byte_allowed) t (bit_or faults fault) (i + 1)
  plain-on faults fault i h e k = testing-on (every byte_allowed) t faults fault i (byte_allowed (get_or t i 0)) h
      (rw (add-one, drop-cons t i 0)) e k

  -- with what stands first after the byte
  with-next : (i : ℕ) (b : Bool) → i < length t → at_lf (drop (i + 1) t) ≡ b
      → bytes_allowed (drop i t) ≡ ((byte_allowed (get_or t i 0) || (eqb (get_or t i 0) cr && b)) && bytes_allowed
      (drop (i + 1) t))
  with-next i b h e =
      rw (add-one, drop-cons t i 0) (allowed-step (get_or t i 0) (drop (suc i) t)
      ∙ ap (λ (a : Bool). (byte_allowed (get_or t i 0) || (eqb (get_or t i 0) cr && a)) && bytes_allowed
      (drop (suc i) t)) (rw add-one at e))

  pub before_on : (faults fault i : ℕ) → i < length t → fault
      ≡ fault_of (allowed_before (get_or t i 0) (get_or t (i + 1) 0)) → Testing bytes_allowed t faults i
      → Testing bytes_allowed t (bit_or faults fault) (i + 1)
  before_on faults fault i h e k =
      testing-on bytes_allowed t faults fault i (allowed_before (get_or t i 0) (get_or t (i + 1) 0)) h
      (with-next i _ h (at-lf t (i + 1))) e k

  -- nothing stands after the last byte
  pub before-end : (faults fault last : ℕ) → last + 1 ≡ length t → fault ≡ fault_of (allowed_before (get_or t last 0) 0)
      → Testing bytes_allowed t faults last
      → eqb (bit_or faults fault) 0 ≡ bytes_allowed t
  before-end faults fault last h e k =
      let l : length t ≤ last + 1 = omega arith in
      let none : drop (last + 1) t ≡ [] = drop_of_length-le t l in
      testing-end bytes_allowed t (bit_or faults fault) (last + 1) refl (omega arith)
      (testing-on bytes_allowed t faults fault last (allowed_before (get_or t last 0) 0) (omega arith)
      (with-next last false (omega arith) (ap at_lf none)) e k)

-- ---- what two iterators have left, the one a byte ahead of the other

-- the next byte
pub next_byte : (t : List ℕ) (i x : ℕ) (xs : List ℕ) → drop i t ≡ x ∷ xs → (x ≡ get_or t i 0) × (xs ≡ drop (i + 1) t)
    × (i < length t)
next_byte [] zero x xs e = clash (cc)
next_byte [] (suc i) x xs e = clash (cc)
next_byte (y ∷ t) zero x xs e = (sym (ap (λ l. get_or l 0 0) e), sym (ap (drop 1) e), omega arith)
next_byte (y ∷ t) (suc i) x xs e =
    let n = next_byte t i x xs e in
    let z : suc (i + 1) ≡ suc i + 1 = omega arith in
    (n.0, n.1 ∙ ap (λ k. drop k (y ∷ t)) z, omega (arith, n.2))
