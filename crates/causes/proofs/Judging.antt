-- From the verdicts to the promise of a call.
use Rattle.std.specs.Prelude.{Ok, Err, Result}
use Prim.Native.Nat.{ℕ, zero, suc, ◌-◌, ◌≤◌, ◌<◌}
use mathlib.Core.Path.{◌≡◌, refl, sym, ap, ◌∙◌, subst}
use mathlib.Core.Bool.{Bool, true, false, cond}
use mathlib.Core.Logic.{◌≢◌}
use mathlib.Core.List.{List, [], ◌∷◌, ◌++◌}
use native.Mathlib.Omega.{arith}
use lib.Dec.{eqb, leb}
use lib.ListN.{length, get_or, take, drop}
use lib.Seq.{ext_get_or}
use borrow.Author.Tests.{eqb-true}
use Rattle.netlist.specs.declared.Gate.{Gate}
use Rattle.netlist.specs.declared.Gate.TheVariants.{Xor, And, Inv, Eqw, Eq}
use Rattle.netlist.specs.declared.Refusal.{Refusal}
use Rattle.netlist.specs.declared.Refusal.TheVariants as Q
use Rattle.netlist.specs.Refusal.{number_of}
use Rattle.netlist.specs.declared.Sizes.{Sizes}
use Rattle.netlist.specs.Netlist.{Netlist, input_bits, result, masked_limits}
use Rattle.netlist.specs.Outcome.{Outcome, refused, done, ask, and_then}
use Rattle.netlist.specs.Read.{read_netlist}
use Rattle.netlist.specs.Table.{Tables, Holds}
use Rattle.netlist.specs.Services.{tables_long, list_good, holds, delivered, outcome_of, Answers}
use Rattle.netlist.proofs.Tests.{clash, on_bool, both_true}
use Rattle.netlist.proofs.Questions.{ask-done, done-same}
use Rattle.netlist.proofs.Answering.{answers-as, answers-refused, delivers-short, delivers-done, call-refused}
use Rattle.netlist.proofs.Answering.{call-goes-on}
use Rattle.masking.specs.Mask.{is_input_code}
use Rattle.masking.specs.Calls.{ends_in_masks, max_checked}
use Rattle.masking.specs.Leak.{EqualCounts}
use Rattle.evaluate.specs.Lane.{up_to}
use Rattle.evaluate.proofs.Fronts.{copied-front}
use Rattle.reader.specs.declared.netlist_tables.NetlistTables.{NetlistTables}
use Rattle.reader.specs.Tables.{HoldsNetlist}
use Rattle.reader.specs.Taken.{TakenOf}
use Rattle.causes.specs.Causes.{level, operands_pass, begins, some_begins, verdict, verdicts}
use Rattle.causes.specs.Marked.{Told}
use Rattle.causes.specs.Judged.{Among, first, later, OfOperands, WiresJudged}
use Rattle.causes.specs.Promise.{wires_outcome, wires_call, call}
use Rattle.causes.proofs.Testing.{level-equal, equal-level}
use Rattle.causes.proofs.Beginnings.{zero-passes}

-- ---- the list of the verdicts

pub length-up_to : (n : ℕ) (f : ℕ → ℕ) → length (up_to n f) ≡ n
length-up_to zero f = refl
length-up_to (suc n) f = ap suc (length-up_to n (λ i. f (suc i)))

pub up_to-at : (n : ℕ) (f : ℕ → ℕ) (i : ℕ) → i < n → get_or (up_to n f) i 0 ≡ f i
up_to-at zero f i h = absurd (omega arith)
up_to-at (suc n) f zero h = refl
up_to-at (suc n) f (suc i) h = up_to-at n (λ i. f (suc i)) i (omega arith)

pub up_to-is : (n : ℕ) (f : ℕ → ℕ) (xs : List ℕ) → length xs ≡ n → ((i : ℕ) → i < n → get_or xs i 0 ≡ f i)
    → xs ≡ up_to n f
up_to-is n f xs long each = ext_get_or 0 xs (up_to n f) (long ∙ sym (length-up_to n f))
    (λ i h. each i (omega arith) ∙ sym (up_to-at n f i (omega arith)))

pub length-verdicts : (N : Netlist) (codes : List ℕ) → length (verdicts N codes) ≡ N.wires
unfolding verdicts
length-verdicts N codes = length-up_to N.wires _

pub verdicts-law : (N : Netlist) (codes : List ℕ) (gs : List Gate) (W : ℕ) (out : List ℕ) → N.wires ≡ W
    → N.gates ≡ gs → length out ≡ W → Told (level N codes) gs W out → out ≡ verdicts N codes
unfolding verdicts
verdicts-law N codes gs W out w g long told =
    up_to-is N.wires (verdict (level N codes) N.gates) out (long ∙ sym w)
    (λ i h. told i (omega arith) ∙ ap (λ (gs : List Gate). verdict (level N codes) gs i) (sym g))

-- ---- what they say

some-found : {P : Type 0} (u : ℕ → Bool) (gs : List Gate) (w : ℕ) → some_begins u gs w ≡ true
    → ((g : Gate) → Among g gs → result g ≡ w → operands_pass u g ≡ true → P) → P
some-found u [] w e f = clash (cc)
some-found u (g ∷ gs) w e f = on_bool (begins u g w)
    (λ b. let p = both_true (eqb (result g) w) (operands_pass u g) b in f g first (eqb-true (result g) w p.0) p.1)
    (λ b. some-found u gs w (rw b at e) (λ h a. f h (later a)))

pass-each : {P : ℕ → Type 0} (u : ℕ → Bool) (g : Gate) → operands_pass u g ≡ true → ((a : ℕ) → u a ≡ true → P a)
    → OfOperands P g
pass-each u (Xor a b c) e f = let p = both_true (u a) (u b) e in (f a p.0, f b p.1)
pass-each u (And a b c) e f = let p = both_true (u a) (u b) e in (f a p.0, f b p.1)
pass-each u (Inv a c) e f = f a e
pass-each u (Eqw a c) e f = f a e
pass-each u (Eq v c) e f = tt

two-begins : (u : ℕ → Bool) (gs : List Gate) (w : ℕ) → verdict u gs w ≡ 2 → some_begins u gs w ≡ true
two-begins u gs w e = go (u w) (some_begins u gs w) e
  where
    go : (a b : Bool) → ◌≡◌ {A = ℕ} (cond a 0 (cond b 2 1)) 2 → b ≡ true
    go true b p = absurd (omega arith)
    go false true p = refl
    go false false p = absurd (omega arith)

pub verdicts-judged : (N : Netlist) (codes : List ℕ) → WiresJudged N codes (verdicts N codes)
unfolding verdicts
verdicts-judged N codes =
    let u = level N codes in
    let at : (w : ℕ) → w < N.wires → get_or (up_to N.wires (verdict u N.gates)) w 0 ≡ verdict u N.gates w
    = λ w l. up_to-at N.wires (verdict u N.gates) w l in
    let fails : (w : ℕ) → w < N.wires → get_or (up_to N.wires (verdict u N.gates)) w 0 ≢ 0 → EqualCounts N codes w → ⊥
    = λ w l n h. n (at w l ∙ rw (equal-level N codes w h) refl) in
    record {
      clean = λ w l z. level-equal N codes w (zero-passes u N.gates w (sym (at w l) ∙ z));
      leaks = fails;
      causes = λ w l e. some-found u N.gates w (two-begins u N.gates w (sym (at w l) ∙ e)) (λ g a r p. record {
        gate = g;
        among = a;
        gives = r;
        operands = pass-each u g p (λ a q. level-equal N codes a q);
        leaks = fails w l (λ z. absurd (omega (arith, e, z)));
      });
    }

-- ---- questions 14, and 1 to 9

pub holds-at : {t : Tables} {m W W' n o : ℕ} {N : Netlist} → W' ≡ W → Holds t m W n o N → Holds t m W' n o N
holds-at e h = rw e h

module _ (N : Netlist) (codes out : List ℕ) {W : ℕ} (wires : N.wires ≡ W) where
  pub room-short : length out < W → Answers (delivered (length out) (verdicts N codes)) out out (Err Q.Room)
  room-short l = (delivers-short (verdicts N codes) out (omega (arith, length-verdicts N codes, l, wires))).answers

  pub room-done : {ms : List ℕ} → W ≤ length out → ms ≡ verdicts N codes
      → Answers (delivered (length out) (verdicts N codes)) out (ms ++ drop W out) (Ok W)
  room-done {ms} l e =
      let k : W ≡ length (verdicts N codes) = sym (length-verdicts N codes ∙ wires) in
      let x = delivers-done (verdicts N codes) out (ms ++ drop W out) (omega (arith, k, l))
      (copied-front (verdicts N codes) out e k (omega (arith, k, l))) in
      subst (λ (n : ℕ). Answers (delivered (length out) (verdicts N codes)) out (ms ++ drop W out) (Ok n)) (sym k)
      x.answers

module _ (s : Sizes) (text codes out o r g w b : List ℕ) where
  abbrev lengths : List ℕ
  lengths = length o ∷ length r ∷ length g ∷ length w ∷ length b ∷ []

  pub call-not : {q : Refusal} → ask 1 (tables_long (masked_limits s) lengths) (read_netlist (masked_limits s) text)
      ≡ refused (number_of q) → Answers (call s text codes out o r g w b) out out (Err q)
  unfolding wires_call
  call-not p = answers-refused out (call-refused (tables_long (masked_limits s) lengths)
      (read_netlist (masked_limits s) text) (wires_outcome codes (length out)) p)

  pub call-read : {n : NetlistTables} {x : List ℕ} {a : Result ℕ Refusal}
      → (tables_long (masked_limits s) lengths ≡ true) × TakenOf (masked_limits s) text n
      → ((N : Netlist) → HoldsNetlist n N → Answers (wires_outcome codes (length out) N) out x a)
      → Answers (call s text codes out o r g w b) out x a
  unfolding wires_call
  call-read k f = answers-as (sym (call-goes-on (tables_long (masked_limits s) lengths)
      (read_netlist (masked_limits s) text) (wires_outcome codes (length out)) k.0 k.1.read)) (f k.1.is k.1.holds)

  pub call-judged : {x : List ℕ} {a : Result ℕ Refusal} → Answers (call s text codes out o r g w b) out x a
      → (n : ℕ) (N : Netlist) → a ≡ Ok n → read_netlist (masked_limits s) text ≡ done N
      → WiresJudged N codes (take n x)
  unfolding wires_call
  call-judged {x} {a} h n N p read =
      let d = sym (ap (outcome_of x) (sym p) ∙ h.outcome) in
      let one = (ask-done 1 (tables_long (masked_limits s) lengths)
      (and_then (read_netlist (masked_limits s) text) (wires_outcome codes (length out))) (take n x) d).1 in
      let judged = sym (ap (λ (u : Outcome Netlist). and_then u (wires_outcome codes (length out))) read) ∙ one in
      let ten = (ask-done 10 (ends_in_masks N.inputs) _ (take n x) judged).1 in
      let eleven = (ask-done 11 (list_good is_input_code (input_bits N - 2) codes) _ (take n x) ten).1 in
      let twelve = (ask-done 12 (leb (length codes) max_checked) _ (take n x) eleven).1 in
      let last = (ask-done 14 (holds (length out) (verdicts N codes)) _ (take n x) twelve).1 in
      subst (WiresJudged N codes) (done-same (verdicts N codes) (take n x) last) (verdicts-judged N codes)
