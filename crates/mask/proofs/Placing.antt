-- Questions 11 and 14 of a netlist that the gate tables hold, and its twins in the two buffers.
use Rattle.std.specs.Prelude.{Err, Ok, Result}
use Prim.Native.Nat.{ℕ, ◌+◌, ◌≤◌, ◌<◌}
use mathlib.Core.Path.{◌≡◌, refl, sym, ap, ap₂, ◌∙◌}
use mathlib.Core.Bool.{Bool, true}
use mathlib.Core.List.{List, [], ◌∷◌, ◌++◌, map}
use native.Mathlib.Nat.{suc_inj}
use native.Mathlib.Omega.{arith}
use lib.Dec.{leb}
use lib.ListN.{length, take, drop, length-map}
use lib.Seq.{sets, sets-eq}
use borrow.Author.Tests.{le-leb, lt-leb}
use Rattle.netlist.specs.declared.Refusal.{Refusal}
use Rattle.netlist.specs.Refusal.{number_of}
use Rattle.netlist.specs.declared.Refusal.TheVariants as Q
use Rattle.netlist.specs.Netlist.{Netlist, input_bits}
use Rattle.netlist.specs.Outcome.{Outcome, refused, done}
use Rattle.masking.specs.Mask.{State, is_input_code, finish}
use Rattle.netlist.specs.Services.{list_good}
use Rattle.netlist.specs.Table.{Tables, Holds}
use Rattle.netlist.proofs.Tests.{on_bool}
use Rattle.netlist.proofs.Answering.{answers-refused, take-sets}
use Rattle.mask_rule.specs.State.{twins_of}
use Rattle.mask_rule.specs.Place.{Finished}
use Rattle.masking.proofs.Carried.{length-finish}
use Rattle.mask_rule.proofs.Made.{codes-length}
use Rattle.mask.specs.TwinsPromise.{TwinLists, wire_of, code_of, twin_lists, lists_outcome, twins_outcome, TwinsAnswers}

-- ---- answers

pub twins-as : {c d : Outcome TwinLists} {e x f y : List ℕ} {a : Result ℕ Refusal} → c ≡ d → TwinsAnswers c e x f y a
    → TwinsAnswers d e x f y a
twins-as p h = rw p at h

-- a refusal leaves both buffers as they were
pub twins-refused : {c : Outcome TwinLists} (e f : List ℕ) {q : Refusal} → c ≡ refused (number_of q)
    → TwinsAnswers c e e f f (Err q)
twins-refused e f p = record { wires = answers-refused e (rw p); codes = answers-refused f (rw p) }

-- ---- two tables of twins

pub wires-of : (ws es : List ℕ) → length es ≡ length ws → map wire_of (twins_of ws es) ≡ ws
wires-of [] es l = refl
wires-of (w ∷ ws) [] l = absurd (omega arith)
wires-of (w ∷ ws) (e ∷ es) l = ap (λ (r : List ℕ). w ∷ r) (wires-of ws es (suc_inj l))

pub codes-of : (ws es : List ℕ) → length es ≡ length ws → map code_of (twins_of ws es) ≡ es
codes-of [] [] l = refl
codes-of [] (e ∷ es) l = absurd (omega arith)
codes-of (w ∷ ws) [] l = absurd (omega arith)
codes-of (w ∷ ws) (e ∷ es) l = ap (λ (r : List ℕ). e ∷ r) (codes-of ws es (suc_inj l))

-- a list in place of a buffer's front
front-sets : (bs e : List ℕ) (W : ℕ) → length bs ≡ W → W ≤ length e → bs ++ drop W e ≡ sets e 0 bs
front-sets bs e W l h =
    let k : 0 + length bs ≡ W = omega arith in
    sym (sets-eq bs e 0 (omega arith) ∙ ap (λ (j : ℕ). bs ++ drop j e) k)

-- ---- question 14

pub finished-same : {t : Tables} {count W W' r : ℕ} {cs ws es : List ℕ} → W ≡ W' → Finished t count cs W' r ws es
    → Finished t count cs W r ws es
finished-same e h = rw e h

module _ {t : Tables} {count W m : ℕ} {N : Netlist} (codes : List ℕ) (h : Holds t count W (length codes) m N)
    (i : length codes ≤ W) where
  long : length (finish N codes).twins ≡ W
  long = length-finish N codes (sym h.ins) (omega (arith, h.ins, h.wires)) ∙ h.wires

  long-wires : length (twin_lists N codes).wires ≡ W
  long-wires = length-map (finish N codes).twins wire_of ∙ long

  long-codes : length (twin_lists N codes).codes ≡ W
  long-codes = length-map (finish N codes).twins code_of ∙ long

  pub short-wires : (e f : List ℕ) → length e < W → TwinsAnswers
      (lists_outcome (length e) (length f) (twin_lists N codes)) e e f f (Err Q.Room)
  short-wires e f l = twins-refused e f
      (rw (lt-leb (length (twin_lists N codes).wires) (length e) (omega (arith, long-wires))))

  pub short-codes : (e f : List ℕ) → length f < W → TwinsAnswers
      (lists_outcome (length e) (length f) (twin_lists N codes)) e e f f (Err Q.Room)
  short-codes e f l =
      let u = lt-leb (length (twin_lists N codes).codes) (length f) (omega (arith, long-codes)) in
      on_bool (leb (length (twin_lists N codes).wires) (length e)) (λ b. twins-refused e f (rw (b, u)))
      (λ b. twins-refused e f (rw b))

  -- the tables of the twins are the fronts of the buffers
  pub placed : {e f ws es : List ℕ} {r : ℕ} → W ≤ length e → W ≤ length f → length ws ≡ W → length es ≡ W
      → Finished t count codes W r ws es
      → TwinsAnswers (lists_outcome (length e) (length f) (twin_lists N codes)) e (ws ++ drop W e) f (es ++ drop W f)
      (Ok W)
  placed {e} {f} {ws} {es} a b kw ke d =
      let L = twin_lists N codes in
      let same : twins_of ws es ≡ (finish N codes).twins = ap (λ (S : State). S.twins) (d.state N h) in
      let w : ws ≡ L.wires = sym (wires-of ws es (ke ∙ sym kw)) ∙ ap (map wire_of) same in
      let c : es ≡ L.codes = sym (codes-of ws es (ke ∙ sym kw)) ∙ ap (map code_of) same in
      let x : ws ++ drop W e ≡ sets e 0 L.wires = ap (λ (l : List ℕ). l ++ drop W e) w
      ∙ front-sets L.wires e W long-wires a in
      let y : es ++ drop W f ≡ sets f 0 L.codes = ap (λ (l : List ℕ). l ++ drop W f) c
      ∙ front-sets L.codes f W long-codes b in
      let u = le-leb (length L.wires) (length e) (omega (arith, long-wires)) in
      let v = le-leb (length L.codes) (length f) (omega (arith, long-codes)) in
      record {
        wires = rw (u, v) (record {
          answer = ap (λ (k : ℕ). done k) (sym long-wires);
          outcome = ap done (ap₂ take (sym long-wires) x ∙ take-sets L.wires e (omega (arith, long-wires)));
          buffer = x;
        });
        codes = rw (u, v) (record {
          answer = ap (λ (k : ℕ). done k) (sym long-codes);
          outcome = ap done (ap₂ take (sym long-codes) y ∙ take-sets L.codes f (omega (arith, long-codes)));
          buffer = y;
        });
      }

-- ---- question 11

module _ {t : Tables} {count W n m : ℕ} {N : Netlist} (h : Holds t count W n m N) (codes : List ℕ) where
  good : (b : Bool) → list_good is_input_code n codes ≡ b → list_good is_input_code (input_bits N) codes ≡ b
  good b e = ap (λ (k : ℕ). list_good is_input_code k codes) h.ins ∙ e

  pub holds-codes : list_good is_input_code n codes ≡ true → Holds t count W (length codes) m N
  holds-codes p = record {
    gates = h.gates;
    wires = h.wires;
    ins = h.ins ∙ sym (codes-length is_input_code n codes p);
    outs = h.outs;
  }

  pub twins-14 : {e x f y : List ℕ} {r : Result ℕ Refusal} → list_good is_input_code n codes ≡ true
      → TwinsAnswers (lists_outcome (length e) (length f) (twin_lists N codes)) e x f y r
      → TwinsAnswers (twins_outcome codes (length e) (length f) N) e x f y r
  twins-14 p a = twins-as (sym (rw (good true p) refl)) a
