-- From a result to a service's answer.
use Rattle.std.specs.Prelude.{Ok, Err, Result, Some, None}
use Prim.Native.Nat.{ℕ, ◌-◌, ◌≤◌, ◌<◌}
use mathlib.Core.Path.{◌≡◌, refl, sym, ap, ◌∙◌, subst}
use mathlib.Core.Bool.{true, false}
use mathlib.Core.List.{List, [], ◌∷◌, ◌++◌}
use native.Mathlib.Omega.{arith}
use lib.Dec.{ltb, leb}
use lib.ListN.{length, take, drop}
use lib.Seq.{sets}
use borrow.Author.Tests.{lt-ltb, ltb-true}
use Rattle.netlist.specs.declared.Refusal.{Refusal}
use Rattle.netlist.specs.declared.Refusal.TheVariants as Q
use Rattle.netlist.specs.declared.Sizes.{Sizes}
use Rattle.netlist.specs.declared.Sizes.TheVariants.{Standard, Whole}
use Rattle.netlist.specs.Refusal.{number_of}
use Rattle.netlist.specs.Netlist.{Netlist, input_bits, large_wires, masked_limits}
use Rattle.netlist.specs.Outcome.{Outcome, refused, done, ask, and_then}
use Rattle.netlist.specs.Read.{read_netlist}
use Rattle.netlist.specs.Services.{tables_long, list_good, holds, delivered, outcome_of, Answers}
use Rattle.netlist.proofs.Questions.{ask-done, done-same}
use Rattle.netlist.proofs.Tests.{on_bool}
use Rattle.netlist.proofs.Answering.{answers-as, answers-refused, delivers-short, delivers-done, call-refused}
use Rattle.netlist.proofs.Answering.{call-goes-on, table_at}
use Rattle.masking.specs.Mask.{is_input_code}
use Rattle.masking.specs.Calls.{ends_in_masks, max_checked}
use Rattle.evaluate.proofs.Fronts.{copied-front}
use Rattle.reader.specs.declared.netlist_tables.NetlistTables.{NetlistTables}
use Rattle.reader.specs.Tables.{HoldsNetlist}
use Rattle.reader.specs.Taken.{TakenOf}
use Rattle.causes.specs.Promise.{explained}
use Rattle.explain.specs.declared.tally.Totals.{Totals}
use Rattle.explain.specs.Totals.{totals_of, listed}
use Rattle.explain.specs.Counts.{lightest, counts_of}

-- ---- question 14

pub room-short : (bs out : List ℕ) (n : ℕ) → n ≡ length bs → length out < n
    → Answers (delivered (length out) bs) out out (Err Q.Room)
room-short bs out n e l = (delivers-short bs out (omega arith)).answers

pub room-done : (bs out ms : List ℕ) (n : ℕ) → n ≡ length bs → n ≤ length out → ms ≡ bs
    → Answers (delivered (length out) bs) out (ms ++ drop n out) (Ok n)
room-done bs out ms n k l e =
    subst (λ (m : ℕ). Answers (delivered (length out) bs) out (ms ++ drop n out) (Ok m)) (sym k)
    (delivers-done bs out (ms ++ drop n out) (omega arith) (copied-front bs out e k (omega arith))).answers

-- ---- question 21

pub no-wire : (rest : Outcome (List ℕ)) (W wire : ℕ) (out : List ℕ) → W ≤ wire
    → Answers (ask 21 (ltb wire W) rest) out out (Err Q.Pairs)
no-wire rest W wire out l = answers-refused out (rw (le-not-lt W wire l) refl)
  where
    le-not-lt : (a b : ℕ) → a ≤ b → ltb b a ≡ false
    le-not-lt a b l = on_bool (ltb b a)
        (λ t. let k = ltb-true b a t in absurd (omega arith)) (λ t. t)

pub some-wire : {rest : Outcome (List ℕ)} {out x : List ℕ} {a : Result ℕ Refusal} (W wire : ℕ) → wire < W
    → Answers rest out x a → Answers (ask 21 (ltb wire W) rest) out x a
some-wire W wire l h = answers-as (sym (rw (lt-ltb wire W l) refl)) h

-- ---- the numbers of a wire

module _ (f g : ℕ → ℕ) (k S : ℕ) (t : Totals) (totals : t ≡ totals_of g S) (out : List ℕ) where
  with-none : lightest f g k S ≡ None → counts_of f g k S ≡ listed t []
  with-none e = rw (totals, e) refl

  with-some : (b : ℕ) → lightest f g k S ≡ Some b → counts_of f g k S ≡ listed t (b ∷ f b ∷ g b ∷ [])
  with-some b e = rw (totals, e) refl

  pub none-short : lightest f g k S ≡ None → length out < 5
      → Answers (delivered (length out) (counts_of f g k S)) out out (Err Q.Room)
  none-short e l = room-short (counts_of f g k S) out 5 (sym (ap length (with-none e))) l

  pub some-short : (b : ℕ) → lightest f g k S ≡ Some b → length out < 8
      → Answers (delivered (length out) (counts_of f g k S)) out out (Err Q.Room)
  some-short b e l = room-short (counts_of f g k S) out 8 (sym (ap length (with-some b e))) l

  written : (bs : List ℕ) (out' : List ℕ) (n : ℕ) → n ≡ length bs → n ≤ length out → out' ≡ sets out 0 bs
      → Answers (delivered (length out) bs) out out' (Ok n)
  written bs out' n e l p = subst (λ (m : ℕ). Answers (delivered (length out) bs) out out' (Ok m)) (sym e)
      (delivers-done bs out out' (omega arith) p).answers

  pub none-done : lightest f g k S ≡ None → (out' : List ℕ) → 5 ≤ length out → out' ≡ sets out 0 (listed t [])
      → Answers (delivered (length out) (counts_of f g k S)) out out' (Ok 5)
  none-done e out' l p = subst (λ (bs : List ℕ). Answers (delivered (length out) bs) out out' (Ok 5)) (sym (with-none e))
      (written (listed t []) out' 5 refl l p)

  pub some-done : (b : ℕ) → lightest f g k S ≡ Some b → (x y : ℕ) → x ≡ f b → y ≡ g b → (out' : List ℕ)
      → 8 ≤ length out → out' ≡ sets out 0 (listed t (b ∷ x ∷ y ∷ []))
      → Answers (delivered (length out) (counts_of f g k S)) out out' (Ok 8)
  some-done b e x y ex ey out' l p = subst (λ (bs : List ℕ). Answers (delivered (length out) bs) out out' (Ok 8))
      (sym (with-some b e)) (written (listed t (b ∷ f b ∷ g b ∷ [])) out' 8 refl l (rw (ex, ey) at p))

-- ---- questions 1 to 9, and then what follows them

module _ (s : Sizes) (text out lengths : List ℕ) (next : Netlist → Outcome (List ℕ)) where
  pub text-not : {q : Refusal} → ask 1 (tables_long (masked_limits s) lengths) (read_netlist (masked_limits s) text)
      ≡ refused (number_of q)
      → Answers (ask 1 (tables_long (masked_limits s) lengths) (and_then (read_netlist (masked_limits s) text) next)) out
      out (Err q)
  text-not p = answers-refused out (call-refused (tables_long (masked_limits s) lengths)
      (read_netlist (masked_limits s) text) next p)

  pub text-read : {n : NetlistTables} {x : List ℕ} {a : Result ℕ Refusal}
      → (tables_long (masked_limits s) lengths ≡ true) × TakenOf (masked_limits s) text n
      → ((N : Netlist) → HoldsNetlist n N → Answers (next N) out x a)
      → Answers (ask 1 (tables_long (masked_limits s) lengths) (and_then (read_netlist (masked_limits s) text) next)) out
      x a
  text-read k f = answers-as (sym (call-goes-on (tables_long (masked_limits s) lengths)
      (read_netlist (masked_limits s) text) next k.0 k.1.read)) (f k.1.is k.1.holds)

  -- a result is what follows the netlist
  pub text-done : {x : List ℕ} {a : Result ℕ Refusal}
      → Answers (ask 1 (tables_long (masked_limits s) lengths) (and_then (read_netlist (masked_limits s) text) next)) out
      x a
      → (n : ℕ) (N : Netlist) → a ≡ Ok n → read_netlist (masked_limits s) text ≡ done N → next N ≡ done (take n x)
  text-done {x} {a} h n N p read =
      let d = sym (ap (outcome_of x) (sym p) ∙ h.outcome) in
      let one = (ask-done 1 (tables_long (masked_limits s) lengths)
      (and_then (read_netlist (masked_limits s) text) next) (take n x) d).1 in
      sym (ap (λ (u : Outcome Netlist). and_then u next) read) ∙ one

-- a result of a wire is what was to be told
pub wire-done : (N : Netlist) (codes bs list : List ℕ) (wire room : ℕ)
    → explained (ask 21 (ltb wire N.wires) (delivered room bs)) codes N ≡ done list → bs ≡ list
wire-done N codes bs list wire room e =
    let ten = (ask-done 10 (ends_in_masks N.inputs) _ list e).1 in
    let eleven = (ask-done 11 (list_good is_input_code (input_bits N - 2) codes) _ list ten).1 in
    let twelve = (ask-done 12 (leb (length codes) max_checked) _ list eleven).1 in
    let wired = (ask-done 21 (ltb wire N.wires) _ list twelve).1 in
    let last = (ask-done 14 (holds room bs) _ list wired).1 in
    done-same bs list last

-- every lent table has room for the bits of a wire
large-room : (s : Sizes) → 16384 ≤ large_wires s
large-room Standard = omega arith
large-room Whole = omega arith

pub rooms : (s : Sizes) (o r g w b W : ℕ) → tables_long (masked_limits s) (o ∷ r ∷ g ∷ w ∷ b ∷ []) ≡ true
    → W ≤ (masked_limits s).wires → (W ≤ w) × (16384 ≤ g) × (16384 ≤ b)
rooms s o r g w b W e l =
    let ns = o ∷ r ∷ g ∷ w ∷ b ∷ [] in
    let most : W ≤ large_wires s = l in
    let bits : large_wires s ≤ g = table_at (masked_limits s) ns 2 e (omega arith) in
    let words : large_wires s ≤ w = table_at (masked_limits s) ns 3 e (omega arith) in
    let bases : large_wires s ≤ b = table_at (masked_limits s) ns 4 e (omega arith) in
    let room = large-room s in
    (omega arith, omega arith, omega arith)
