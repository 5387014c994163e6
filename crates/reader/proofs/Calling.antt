-- The calls of a reader counted.
use Prim.Native.Nat.{ℕ, zero, suc, ◌+◌, ◌-◌, ◌≤◌}
use Rattle.std.specs.Prelude.{Option as Maybe, Some, None, Result, Ok, Err}
use mathlib.Core.Path.{◌≡◌, refl, sym, ap, ◌∙◌, subst}
use mathlib.Core.Bool.{◌&&◌}
use mathlib.Core.List.{List, [], ◌∷◌}
use mathlib.Core.Option.{Option, none, some}
use native.Mathlib.Numerals.{add-one}
use native.Mathlib.Omega.{arith}
use lib.Dec.{leb}
use lib.ListN.{length, drop}
use borrow.Author.Tests.{le-leb}
use Rattle.netlist.specs.declared.Gate.{Gate}
use Rattle.netlist.specs.declared.Limits.{Limits}
use Rattle.netlist.specs.Outcome.{Outcome, refused, done, ask, and_then}
use Rattle.netlist.specs.declared.Refusal.{Refusal}
use Rattle.netlist.specs.Refusal.{number_of}
use Rattle.netlist.specs.Text.{word_lines}
use Rattle.netlist.specs.Header.{Header}
use Rattle.netlist.specs.GateLine.{gate_line}
use Rattle.netlist.specs.Read.{opening}
use Rattle.netlist.specs.GateReader.{Said, no, line_says, says, line_on, onward, call_says, after_opening, reader_says}
use Rattle.netlist.proofs.Tests.{clash}
use Rattle.netlist.proofs.Accepted.{opened}
use Rattle.netlist.proofs.ReaderCalls.{end-again, no-again, reader-in-order}
use Rattle.text.specs.Line.{next_lines_of}
use Rattle.text.proofs.Lines.{following-line, following-lines}
use Rattle.reader.specs.Steps.{step_said, place_after, StepIs}
use Rattle.reader.specs.Opens.{numbers_of, opening_call, OpeningIs}
use Rattle.reader.specs.Calls.{left_after, left_at, AtCall, Behind, ReaderIs, CurrentIs, AdvanceIs, Called, CallIs}
use Rattle.reader.specs.declared.calls.Call.{Call}

-- ---- what is left of the gate lines

-- after an answer
left-lines : (s : List ℕ) → word_lines (left_after (says (word_lines s)) s) ≡ onward (word_lines s)
unfolding says onward
left-lines s = go (word_lines s) refl
  where
    line : (l : List (List ℕ)) (ls : List (List (List ℕ))) → word_lines s ≡ l ∷ ls → (o : Option Gate)
        → word_lines (left_after (line_says o) s) ≡ line_on o l ls
    line l ls e none = e
    line l ls e (some g) = following-line s ∙ ap (drop 1) e

    go : (ls : List (List (List ℕ))) → word_lines s ≡ ls → word_lines (left_after (says ls) s) ≡ onward ls
    go [] e = e
    go (l ∷ ls) e = line l ls e (gate_line l)

-- before the k-th call it decides what is said
says_at : (k : ℕ) (s : List ℕ) → call_says k (word_lines s) ≡ says (word_lines (left_at k s))
unfolding call_says left_at
says_at zero s = refl
says_at (suc k) s = ap (call_says k) (sym (left-lines s)) ∙ says_at k (left_after (says (word_lines s)) s)

-- from one call to the next
left-next : (k : ℕ) (s : List ℕ) → left_at (k + 1) s ≡ left_after (says (word_lines (left_at k s))) (left_at k s)
unfolding left_at
left-next k s = rw add-one (go k s)
  where
    go : (k : ℕ) (s : List ℕ) → left_at (suc k) s ≡ left_after (says (word_lines (left_at k s))) (left_at k s)
    go zero s = refl
    go (suc k) s = go k (left_after (says (word_lines s)) s)

-- ---- a reader before its k-th call

-- an answer of the reader, and what the reader's laws add to it
reader-is : {L : Limits} {t : List ℕ} {k : ℕ} {r : Result (Maybe (Gate × ℕ)) Refusal} → step_said r ≡ reader_says L t k
    → Behind L t k r → ReaderIs L t k r
reader-is {L} {t} {k} p b = record {
  said = p;
  in_order = λ N e. p ∙ reader-in-order L t N e k;
  end_again = λ e j. end-again L t k (sym p ∙ e) j;
  no_again = λ q e j. no-again L t k q (sym p ∙ e) j;
  following = b;
}

module _ {L : Limits} {t : List ℕ} {k at : ℕ} (a : AtCall L t k at) where
  -- the lines from its place on decide what is said
  says_here : reader_says L t k ≡ says (word_lines (drop at t))
  unfolding reader_says
  says_here =
      ap (λ (o : Outcome Header). after_opening o (call_says k (drop 3 (word_lines t)))) a.opens
      ∙ ap (call_says k) (sym (following-lines 3 t)) ∙ says_at k (next_lines_of 3 t)
      ∙ ap (λ (s : List ℕ). says (word_lines s)) (sym a.left)

  next-left : {s : Said} → s ≡ says (word_lines (drop at t)) → left_after s (drop at t)
      ≡ left_at (k + 1) (next_lines_of 3 t)
  next-left e =
      ap (λ (x : Said). left_after x (drop at t)) e ∙ ap (λ (s : List ℕ). left_after (says (word_lines s)) s) a.left
      ∙ sym (left-next k (next_lines_of 3 t))

  following-step : (r : Result (Maybe (Gate × ℕ)) Refusal) → StepIs t at r → Behind L t k r
  following-step (Ok (Some (g, to))) s =
      record { head = a.head; opens = a.opens; left = s.passed.0 ∙ next-left s.said; within = s.passed.2 }
  following-step (Ok None) s = tt
  following-step (Err q) s = tt

  -- what it says at its place is the k-th answer
  reader-current : {r : Result (Maybe (Gate × ℕ)) Refusal} → StepIs t at r → ReaderIs L t k r
  reader-current {r} s = reader-is (s.said ∙ sym says_here) (following-step r s)

  -- that answer takes it before the next call
  reader-advance : (r : Result (Maybe (Gate × ℕ)) Refusal) → ReaderIs L t k r → AtCall L t (k + 1) (place_after at r)
  reader-advance (Ok (Some (g, to))) c = c.following
  reader-advance (Ok None) c = record {
    head = a.head;
    opens = a.opens;
    left = next-left (c.said ∙ says_here);
    within
        = a.within;
  }
  reader-advance (Err q) c = record {
    head = a.head;
    opens = a.opens;
    left = next-left (c.said ∙ says_here);
    within
        = a.within;
  }

-- ---- the struct's functions

pub current-is : {t : List ℕ} {at : ℕ} {r : Result (Maybe (Gate × ℕ)) Refusal} → StepIs t at r → CurrentIs t at r
current-is s = record { step = s; call = λ L k a. reader-current a s }

pub advance-is : {at : ℕ} (t : List ℕ) (r : Result (Maybe (Gate × ℕ)) Refusal) {to : ℕ} → to ≡ place_after at r
    → AdvanceIs t at r to
advance-is t r e = record { place = e; call = λ L k a c. subst (AtCall L t (k + 1)) (sym e) (reader-advance a r c) }

-- ---- calls in a row

-- i of k calls led from a place to another
pub record Calling (t : List ℕ) (from k at i : ℕ) : Type 0 where
  pub reached : (L : Limits) → AtCall L t 0 from → AtCall L t i at
  pub few : i ≤ k

module _ {t : List ℕ} {from k at i : ℕ} (c : Calling t from k at i) {a : Call} (s : Called t at a) where
  -- the reader stayed: what it said is said at every later call
  pub calling-stays : a.then.at ≡ at → CallIs t from k a.step
  calling-stays m = record { call = λ L o. go L a.step s.on.place s.says.step (s.says.call L i (c.reached L o)) }
    where
      later : i + (k - i) ≡ k
      later = omega (arith, c.few)

      go : (L : Limits) (r : Result (Maybe (Gate × ℕ)) Refusal) → a.then.at ≡ place_after at r → StepIs t at r
          → ReaderIs L t i r → ReaderIs L t k r
      go L (Ok (Some (g, p))) q u x = absurd (omega (arith, u.passed.1))
      go L (Ok None) q u x = reader-is (sym (rw later at (x.end_again refl (k - i)))) tt
      go L (Err n) q u x = reader-is (sym (rw later at (x.no_again (number_of n) refl (k - i)))) tt

-- the last call
pub calling-end : {t : List ℕ} {from k at i : ℕ} {r : Result (Maybe (Gate × ℕ)) Refusal} → Calling t from k at i
    → CurrentIs t at r → k ≤ i → CallIs t from k r
calling-end {t = t} {k = k} {i = i} {r = r} c s h =
    let y : i ≡ k = omega (arith, c.few) in
    record { call = λ L o. subst (λ (n : ℕ). ReaderIs L t n r) y (s.call L i (c.reached L o)) }

-- ---- from an opening on

module _ {L : Limits} {t ins ins' outs outs' : List ℕ} where
  -- a refused opening is all that is said, where the widths have room
  pub reader-no : {k : ℕ} {q : Refusal} → L.inputs ≤ length ins → L.outputs ≤ length outs → OpeningIs L t ins ins' outs
      outs' (Err q) → ReaderIs L t k (Err q)
  unfolding reader_says opening_call
  reader-no {k} {q} i j o = reader-is (go (opening L t) refl o.said) tt
    where
      go : (x : Outcome Header) → opening L t ≡ x
          → refused (number_of q)
          ≡ (and_then (and_then x λ H. ask 14 (leb (length H.inputs) (length ins) && leb (length H.outputs)
          (length outs)) (done H)) λ H.
          done (numbers_of H))
          → no (number_of q) ≡ after_opening x (call_says k (drop 3 (word_lines t)))
      go (refused p) w e = let z : number_of q ≡ p = cc in ap no z
      go (done H) w e =
          let h = opened L t H w in
          let f = rw (
            le-leb (length H.inputs) (length ins) (omega (arith, h.inputs)),
            le-leb (length H.outputs)
                (length outs) (omega (arith, h.outputs)),
          ) at e in
          clash (cc)
