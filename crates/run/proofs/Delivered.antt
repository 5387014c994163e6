-- Questions 11 and 14 of a netlist that the tables hold, over entries of any type.
use Rattle.std.specs.Prelude.{Ok, Result}
use Prim.Native.Nat.{ℕ, ◌+◌, ◌≤◌}
use mathlib.Core.Path.{◌≡◌, refl, sym, ap, ap₂, ◌∙◌}
use mathlib.Core.Bool.{Bool, true}
use mathlib.Core.List.{List, ◌++◌}
use native.Mathlib.Omega.{arith}
use lib.ListN.{length, take, drop}
use lib.Seq.{sets, sets-eq, take_at}
use borrow.Author.Tests.{le-leb}
use Rattle.netlist.specs.declared.Refusal.{Refusal}
use Rattle.netlist.specs.Netlist.{Netlist, input_bits}
use Rattle.netlist.specs.Outcome.{Outcome, refused, done}
use Rattle.netlist.specs.Services.{Answers}
use Rattle.netlist.specs.Table.{Tables, Holds}
use Rattle.run.specs.Entries.{Gives, EntryLaws, list_outcome}

pub holds-wires : {t : Tables} {count W W' n o : ℕ} {N : Netlist} → W' ≡ W → Holds t count W n o N
    → Holds t count W' n o N
holds-wires e h = rw e h

pub holds-out : {t : Tables} {count W n o o' : ℕ} {N : Netlist} → o' ≡ o → Holds t count W n o N
    → Holds t count W n o' N
holds-out e h = rw e h

module _ {A : Type 0} {admits : List A → ℕ → Bool} {outputs : Netlist → List A → List A}
    (laws : EntryLaws admits outputs) (list : List A)
    {n : ℕ} (e : true ≡ admits list n) {t : Tables} {count W o : ℕ} {N : Netlist} (h : Holds t count W n o N) where
  -- a list that is admitted has an entry for each input bit
  pub holds-list : Holds t count W (length list) o N
  holds-list = rw (laws.ins list n (sym e)) h

  front-eq : (s d : List A) → length s ≤ length d → sets d 0 s ≡ s ++ drop (length s) d
  front-eq s d h = let e : 0 + length s ≡ length s = omega arith in sets-eq s d 0 (omega arith)
      ∙ ap (λ (m : ℕ). s ++ drop m d) e

  -- a result at the front of a buffer that can hold it
  take-sets : (bs out : List A) → length bs ≤ length out → take (length bs) (sets out 0 bs) ≡ bs
  take-sets bs out l = ap (take (length bs)) (sets-eq bs out 0 (omega arith)) ∙ take_at bs _ (length bs) refl

  pub gives-done : n ≤ W → o ≤ W → {out out' : List A} → o ≤ length out → {x : List A} → x ≡ outputs N list → out' ≡ x
      ++ drop o out
      → Gives (list_outcome admits outputs list (length out) N) out out' (Ok o)
  gives-done i u {out} {out'} l {x} p q =
      let w = h.wires in
      let ins = h.ins in
      let outs = h.outs in
      let result = outputs N list in
      let admitted : admits list (input_bits N) ≡ true = ap (admits list) ins ∙ sym e in
      let k : length result ≡ o = laws.outs N list admitted (omega arith) (omega arith) ∙ outs in
      let w : out' ≡ sets out 0 result = q ∙ ap₂ (λ (y : List A) (m : ℕ). y ++ drop m out) p (sym k)
      ∙ sym (front-eq result out (omega arith)) in
      let s : take o out' ≡ result = ap (λ (m : ℕ). take m out') (sym k) ∙ ap (take (length result)) w
      ∙ take-sets result out (omega arith) in
      rw (admitted, le-leb (length result) (length out) (omega arith))
      (record { answer = ap done (sym k); outcome = ap done s; buffer = w })

-- over numbers, `Gives` is what `Answers` says
pub gives-answers : (c : Outcome (List ℕ)) {before after : List ℕ} {a : Result ℕ Refusal} → Gives c before after a
    → Answers c before after a
gives-answers (refused q) h = record { answer = h.answer; outcome = h.outcome; buffer = h.buffer }
gives-answers (done result) h = record { answer = h.answer; outcome = h.outcome; buffer = h.buffer }
