-- From the netlist that was read to the outcome of a call, and what an answer says of it.
use Prim.Native.Nat.{ℕ, min}
use Rattle.std.specs.Prelude as std
use Rattle.std.specs.Prelude.{Result, Ok, Err}
use mathlib.Core.Path.{◌≡◌, refl, sym, ap, ◌∙◌}
use mathlib.Core.Bool.{Bool, true, false, ◌&&◌}
use mathlib.Core.List.{List, [], ◌∷◌}
use native.Mathlib.Omega.{arith}
use lib.Dec.{leb}
use lib.ListN.{length}
use borrow.Author.Tests.{le-leb, lt-leb, leb-true, leb-false}
use Rattle.netlist.specs.declared.Limits.{Limits}
use Rattle.netlist.specs.declared.Refusal.{Refusal}
use Rattle.netlist.specs.declared.Sizes.{Sizes}
use Rattle.netlist.specs.Netlist.{Netlist, masked_limits}
use Rattle.netlist.specs.Outcome.{Outcome, refused, done, ask, and_then}
use Rattle.netlist.specs.Read.{read_netlist}
use Rattle.masking.specs.Leak.{Found, leak}
use Rattle.netlist.specs.Services.{tables_long}
use Rattle.masking.specs.Calls.{check_outcome, check_call}
use Rattle.netlist.proofs.Answering.{call-refused, call-goes-on}
use Rattle.netlist.proofs.Questions.{done-same, ask-done, and_then-done}
use Rattle.masking.proofs.LeakSearch.{none-clean, found-lowest}
use Rattle.reader.specs.declared.netlist_tables.NetlistTables.{NetlistTables}
use Rattle.reader.specs.Tables.{HoldsNetlist}
use Rattle.reader.specs.Taken.{TakenOf}
use Rattle.leak_search.specs.declared.difference.Leak.{Leak}
use Rattle.leak_search.specs.Search.{found, found_of}
use Rattle.checker.proofs.Calling.{outcome-leak}
use Rattle.check_pairs.specs.Pairs.{PairsJudged}
use Rattle.check_pairs.specs.Call.{BothAnswers, pairs_outcome, pairs_call}
use Rattle.check_pairs.proofs.PairCalls.{pairs-done}
use Rattle.check_pairs.proofs.PairCheck.{pairs-judged}
use Rattle.check_pairs.specs.declared.search.PairsFound.{PairsFound}
use Rattle.check_pairs.specs.Search.{bad_of}
use Rattle.check_pairs.specs.Judge.{both_of, outcome_of, WiresJudged, Judged}
use Rattle.check_pairs.specs.Promise.{call}

-- the shorter of two tables stands for both
pub shorter-long : (t a b : ℕ) → leb t (min a b) ≡ leb t a && leb t b
shorter-long t a b = go (leb t a) (leb t b) refl refl
  where
    go : (x y : Bool) → leb t a ≡ x → leb t b ≡ y → leb t (min a b) ≡ x && y
    go true true p q = le-leb t (min a b) (omega (arith, leb-true t a p, leb-true t b q))
    go true false p q = lt-leb t (min a b) (omega (arith, leb-false t b q))
    go false y p q = lt-leb t (min a b) (omega (arith, leb-false t a p))

-- the shortest of three tables stands for them
pub long-three : (L : Limits) (o r g w b z : ℕ) {m n : ℕ} → m ≡ min w b → n ≡ min m z
    → tables_long L (o ∷ r ∷ g ∷ n ∷ []) ≡ tables_long L (o ∷ r ∷ g ∷ w ∷ b ∷ z ∷ [])
long-three L o r g w b z {m} e d =
    ap (λ (n : ℕ). tables_long L (o ∷ r ∷ g ∷ n ∷ [])) (d ∙ ap (λ (k : ℕ). min k z) e)
    ∙ ap (λ (k : Bool). leb L.table o && (leb L.table r && (leb L.table g && k)))
    (ap (λ (k : Bool). k && true) (shorter-long L.table (min w b) z ∙ ap (λ (k : Bool). k && leb L.table z)
    (shorter-long L.table w b))
    ∙ assoc (leb L.table w) (leb L.table b) (leb L.table z))
  where
    assoc : (x y v : Bool) → ((x && y) && v) && true ≡ x && (y && (v && true))
    assoc true true v = refl
    assoc true false v = refl
    assoc false y v = refl

module _ (s : Sizes) (text codes ws o r g w b z : List ℕ) where
  abbrev lengths : List ℕ
  lengths = length o ∷ length r ∷ length g ∷ length w ∷ length b ∷ length z ∷ []

  -- questions 1 to 9, and then 10 to 12 and 21
  pub call-not : {q : ℕ} → ask 1 (tables_long (masked_limits s) lengths) (read_netlist (masked_limits s) text)
      ≡ refused q → refused q ≡ call s text codes ws o r g w b z
  unfolding pairs_call
  call-not p = sym (call-refused (tables_long (masked_limits s) lengths) (read_netlist (masked_limits s) text)
      (pairs_outcome codes ws) p)

  pub call-read : {n : NetlistTables} {a : Outcome (BothAnswers Found)}
      → (tables_long (masked_limits s) lengths ≡ true) × TakenOf (masked_limits s) text n
      → ((N : Netlist) → HoldsNetlist n N → a ≡ pairs_outcome codes ws N)
      → a ≡ call s text codes ws o r g w b z
  unfolding pairs_call
  call-read k f =
      f k.1.is k.1.holds
      ∙ sym (call-goes-on (tables_long (masked_limits s) lengths) (read_netlist (masked_limits s) text)
      (pairs_outcome codes ws) k.0 k.1.read)

  -- a call with both answers: the netlist that was read, and its outcome
  call-done : (a : BothAnswers Found) → done a ≡ call s text codes ws o r g w b z
      → (N : Netlist) × (read_netlist (masked_limits s) text ≡ done N) × (pairs_outcome codes ws N ≡ done a)
  unfolding pairs_call
  call-done a e =
      let one = (ask-done 1 (tables_long (masked_limits s) lengths)
      (and_then (read_netlist (masked_limits s) text) (pairs_outcome codes ws)) a (sym e)).1 in
      and_then-done (read_netlist (masked_limits s) text) (pairs_outcome codes ws) a one

  module _ (f : PairsFound ℕ) (e : done (both_of f) ≡ call s text codes ws o r g w b z) where
    -- the one-wire answer is Check's
    pub call-check : (tables : List ℕ) → tables_long (masked_limits s) tables ≡ true → check_call (masked_limits s)
        tables text codes ≡ done (found_of f.leak)
    unfolding check_call
    call-check tables long =
        let d = call-done (both_of f) e in
        call-goes-on (tables_long (masked_limits s) tables) (read_netlist (masked_limits s) text) (check_outcome codes)
        long d.1
        ∙ (pairs-done codes ws d.0 (both_of f) d.2).0

    module _ (N : Netlist) (read : read_netlist (masked_limits s) text ≡ done N) where
      asked : pairs_outcome codes ws N ≡ done (both_of f)
      asked =
          let d = call-done (both_of f) e in
          ap (pairs_outcome codes ws) (done-same N d.0 (sym read ∙ d.1)) ∙ d.2

      wires-leak : leak N codes ≡ found_of f.leak
      wires-leak = outcome-leak N codes (found_of f.leak) (pairs-done codes ws N (both_of f) asked).0

      pairs-answer : PairsJudged N codes ws (bad_of f.pair)
      pairs-answer =
          let k = (pairs-done codes ws N (both_of f) asked).1 in
          rw k at (pairs-judged N codes ws)

  wires-judged : (v : std.Option (Leak ℕ)) (N : Netlist) → leak N codes ≡ found_of v → WiresJudged N codes v
  wires-judged std.None N e = none-clean N codes e
  wires-judged (std.Some p) N e =
      let f = found-lowest N codes (found p) e in
      (f, λ clean. f.breaks (clean p.wire f.wire))

  -- both answers follow the rules
  pub call-judged : (a : Result (PairsFound ℕ) Refusal) → outcome_of a ≡ call s text codes ws o r g w b z
      → (N : Netlist)
      → read_netlist (masked_limits s) text ≡ done N → Judged N codes ws a
  call-judged (Ok f) e N read = (wires-judged f.leak N (wires-leak f e N read), pairs-answer f e N read)
  call-judged (Err q) e N read = tt
