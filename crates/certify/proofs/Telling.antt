-- From a witness to a leak that is told.
use mathlib.Core.Path.{◌≡◌, refl, sym, ap, ap₂, ◌∙◌, subst}
use mathlib.Core.Bool.{Bool, false, cond}
use mathlib.Core.List.{List, [], ◌∷◌, ◌++◌}
use Prim.Native.Nat.{ℕ, zero, suc, ◌*◌, ◌<◌, ◌≤◌}
use native.Mathlib.Omega.{arith}
use mathlib.Core.Logic.{◌⊎◌, inl, inr, ⊎_elim}
use lib.ListN.{length, get_or, take, set, length-map}
use lib.Seq.{length-take-le, sets}
use Rattle.netlist.specs.Netlist.{Netlist}
use Rattle.netlist.specs.Lists.{sum}
use Rattle.netlist.specs.Outcome.{Outcome, refused, done}
use Rattle.netlist.specs.Read.{WellFormed}
use Rattle.netlist.proofs.Tests.{clash}
use Rattle.evaluate.specs.Lane.{lane, lanes}
use Rattle.evaluate.proofs.Steps.{get_d-lanes}
use Rattle.leak_search.specs.declared.difference.Leak.{Leak as LeakFound}
use Rattle.questions.specs.Asked.{codes_asked}
use Rattle.netlist.specs.declared.Refusal.{Refusal}
use Rattle.std.specs.Prelude.{Option, None, Result, Ok, Err}
use Rattle.questions.proofs.Asking.{asked-bits}
use Rattle.certify.specs.Pass.{Masked, Masking, most_wires}
use Rattle.certify.specs.Round.{setting_in}
use Rattle.certify.specs.Witness.{Witness}
use Rattle.certify.specs.Ones.{ones_below, ones_at, ones_in}
use Rattle.certify.specs.declared.judge.Verdict.{Verdict}
use Rattle.certify.specs.declared.judge.Verdict.TheVariants.{Clean, Leak, Unknown}
use Rattle.certify.proofs.Complete.{masking-none}
use Rattle.certify.specs.Judge.{LeakIn, LeakTold, LeakShort, JudgedBy, Judged, JudgedAs}

-- the same bits, the same ones
ones-same : (f g : ℕ → Bool) (n : ℕ) → ((i : ℕ) → i < n → f i ≡ g i) → ones_below f n ≡ ones_below g n
ones-same f g zero h = refl
ones-same f g (suc n) h =
    ap₂ (λ (l : List ℕ) (b : Bool). l ++ cond b (n ∷ []) []) (ones-same f g n (λ i m. h i (omega arith)))
    (h n (omega arith))

setting-long : (codes words : List ℕ) (s : ℕ) → length codes ≤ length words → length (setting_in codes words s)
    ≡ length codes
setting-long codes words s room = length-map (take (length codes) words) (lane (4 * s)) ∙ length-take-le (length codes)
    words room

-- the ones that are counted and written are those of the setting
many-ones : (codes words : List ℕ) (s : ℕ) {ins : List ℕ} → ins ≡ take (length codes) words → ones_at (4 * s) ins
    ≡ ones_in (setting_in codes words s)
many-ones codes words s {ins} e =
    ones-same (λ i. lane (4 * s) (get_or ins i 0)) (λ i. get_or (lanes (4 * s) ins) i false) (length ins)
    (λ i h. sym (get_d-lanes (4 * s) ins i))
    ∙ ap (ones_below (λ i. get_or (lanes (4 * s) ins) i false)) (sym (length-map ins (lane (4 * s))))
    ∙ ap (λ (l : List ℕ). ones_in (lanes (4 * s) l)) e

pub leak-in : {N : Netlist} {codes words : List ℕ} {p : LeakFound ℕ} → Witness N codes words p → p.wire < N.wires
    → length codes ≤ length words
    → LeakIn N codes p.wire p.base p.own (setting_in codes words p.setting)
leak-in {codes = codes} {words = words} {p = p} W h room =
    record { long = setting-long codes words p.setting room; wire = h; own = W.own; base = W.base; differ = W.differ }

-- questions 10 and 11 are passed: the last two input bits are the mask pair
pub masked-asked : {N : Netlist} {ws codes : List ℕ} → WellFormed N → ws ≡ N.inputs → codes_asked ws codes ≡ done tt
    → Masked N codes
masked-asked {N} {ws} {codes} F e a =
    let b = asked-bits ws codes a in
    record { formed = F; ins = ap sum (sym e) ∙ sym b }

module _ {N : Netlist} (codes words : List ℕ) {ins : List ℕ} {p : LeakFound ℕ} (many : ℕ)
    (e : ins ≡ take (length codes) words) (room : length codes ≤ length words)
    (inside : p.wire < N.wires) (W : Witness N codes words p) (counted : many ≡ length (ones_at (4 * p.setting) ins))
    (leak ones : List ℕ) where
  pub leak-short : (length leak < 4) ⊎ (length ones < many) → LeakShort N codes p words leak ones
  leak-short h =
      let l = ap length (many-ones codes words p.setting e) in
      record {
        found = leak-in W inside room;
        short = ⊎_elim (λ a. inl a) (λ b. inr (omega (arith, l, counted))) h;
      }

  pub leak-told : {ones' : List ℕ} → 4 ≤ length leak → many ≤ length ones → ones'
      ≡ sets ones 0 (ones_at (4 * p.setting) ins)
      → LeakTold N codes p words leak (set (set (set (set leak 0 p.wire) 1 many) 2 p.base) 3 p.own) ones ones'
  leak-told four fits written =
      let l = ap length (many-ones codes words p.setting e) in
      record {
        found = leak-in W inside room;
        room = four;
        fits = omega (arith, l, counted);
        numbers = ap (λ (k : ℕ). set (set (set (set leak 0 p.wire) 1 k) 2 p.base) 3 p.own) (counted ∙ l);
        bits = written ∙ ap (sets ones 0) (many-ones codes words p.setting e);
      }

-- where the pass leaves no wire the answer is that every wire is clean
none-clean : (N : Netlist) (codes leak leak' ones ones' : List ℕ) (f : Option (LeakFound ℕ)) (words : List ℕ)
    (a : Result Verdict Refusal)
    → JudgedBy N codes leak leak' ones ones' None f words a → a ≡ Ok Clean
none-clean N codes leak leak' ones ones' f words (Ok Clean) j = refl
none-clean N codes leak leak' ones ones' f words (Ok Leak) j = absurd j
none-clean N codes leak leak' ones ones' f words (Ok Unknown) j = absurd j
none-clean N codes leak leak' ones ones' f words (Err q) j = absurd j

pub masking-clean : {N : Netlist} {codes leak leak' ones ones' : List ℕ} {a : Result Verdict Refusal}
    → Judged N codes leak leak' ones ones' a
    → (out_codes : List ℕ) → Masking N codes out_codes → N.wires ≤ most_wires → a ≡ Ok Clean
masking-clean {N} {codes} {leak} {leak'} {ones} {ones'} {a} J out_codes M few =
    let F = J.finding in
    let e : F.left ≡ None = masking-none M few N.wires F.left F.passes in
    none-clean N codes leak leak' ones ones' F.found F.words a
    (subst (λ (o : Option ℕ). JudgedBy N codes leak leak' ones ones' o F.found F.words a) e J.says)

-- questions 10 and 11
no-outcome : {P : Type 0} {q : ℕ} → ◌≡◌ {A = Outcome Unit} (refused q) (done tt) → P
no-outcome e = clash (cc)

module _ {N : Netlist} (codes ws : List ℕ) (widths : ws ≡ N.inputs) where
  pub judged-passed : {leak leak' ones ones' : List ℕ} {r : Result Verdict Refusal} → WellFormed N → done tt
      ≡ codes_asked ws codes
      → (Masked N codes → Judged N codes leak leak' ones ones' r) → JudgedAs N codes leak leak' ones ones' r
  judged-passed F said h =
      let g : done tt ≡ codes_asked N.inputs codes = said ∙ ap (λ (v : List ℕ). codes_asked v codes) widths in
      record {
        refused = λ q k. no-outcome (sym (g ∙ k));
        judged = λ k. h (masked-asked F widths (sym said));
        masking = λ out_codes k M few. masking-clean (h (masked-asked F widths (sym said))) out_codes M few;
      }
