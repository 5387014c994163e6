-- From the netlist that was read to the outcome of a call, and what an answer says of it.
use Prim.Native.Nat.{ℕ, ◌+◌, ◌-◌, ◌/◌, ◌%◌, ◌≤◌}
use Rattle.std.specs.Prelude as std
use Rattle.std.specs.Prelude.{Result, Ok, Err}
use mathlib.Core.Path.{◌≡◌, refl, sym, ap, ap₂, subst, ◌∙◌}
use mathlib.Core.Bool.{Bool, true, false, ◌&&◌}
use mathlib.Core.List.{List, [], ◌∷◌}
use mathlib.Core.Option.{Option, none, some}
use native.Mathlib.Omega.{arith}
use lib.Dec.{eqb, leb, leb→le}
use lib.ListN.{length, take}
use lib.Seq.{length-take-le}
use borrow.Author.Tests.{leb-false}
use Rattle.netlist.specs.declared.Refusal.{Refusal}
use Rattle.netlist.specs.declared.Sizes.{Sizes}
use Rattle.netlist.specs.declared.Sizes.TheVariants.{Standard, Whole}
use Rattle.netlist.specs.Netlist.{Netlist, masked_limits, input_bits}
use Rattle.netlist.specs.Outcome.{Outcome, refused, done, ask, and_then}
use Rattle.netlist.specs.Read.{read_netlist, WellFormed}
use Rattle.masking.specs.Mask.{is_input_code, is_public}
use Rattle.masking.specs.Leak.{setting, public_only, count, Found, leak}
use Rattle.netlist.specs.Services.{tables_long, list_good}
use Rattle.masking.specs.Calls.{ends_in_masks}
use Rattle.netlist.proofs.Accepted.{accepted}
use Rattle.netlist.proofs.Answering.{call-refused, call-goes-on}
use Rattle.netlist.proofs.Questions.{done-same, ask-done, and_then-done}
use Rattle.masking.proofs.LeakSearch.{none-clean, found-lowest}
use Rattle.netlist.proofs.Tests.{clash, on_bool, true-T}
use Rattle.reader.specs.declared.netlist_tables.NetlistTables.{NetlistTables}
use Rattle.reader.specs.Tables.{HoldsNetlist}
use Rattle.reader.specs.Taken.{TakenOf}
use Rattle.check_pairs.specs.Call.{BothAnswers, pairs_good}
use Rattle.check_pairs.proofs.PairCheck.{pairs-judged}
use Rattle.check_wide.specs.Reach.{places}
use Rattle.check_wide.specs.Sets.{members_end}
use Rattle.check_wide.specs.Wide.{WideLeak, listed, few_reach, wide_answers, wide_outcome, wide_call}
use Rattle.check_wide.specs.Told as search
use Rattle.check_wide.specs.Told.{WideFound, told, told_of, Rising, OnesTold}
use Rattle.check_wide.specs.Verdict.{both_of, outcome_of}
use Rattle.check_wide.specs.Promise.{call, WiresJudged, Judged}
use Rattle.check_wide.proofs.Places.{places-rise}

-- numbers of wires fit in twenty bits
pub wires-upto : (s : Sizes) → (masked_limits s).table ≤ members_end
wires-upto Standard = omega arith
wires-upto Whole = omega arith

-- the ones of two equal leaks
some-ones : {p q : WideLeak} → ◌≡◌ {A = Option WideLeak} (some p) (some q) → p.ones ≡ q.ones
some-ones e = cc

ok_same : {f g : WideFound} → ◌≡◌ {A = Result WideFound Refusal} (Ok f) (Ok g) → f ≡ g
ok_same e = cc

-- a setting without ones is its own base
zero-and : (b : Bool) → (b && false) ≡ false
zero-and true = refl
zero-and false = refl

own-base : (es : List ℕ) (s i : ℕ) → length (places i (setting (length es) s)) ≡ 0
    → public_only es (setting (length es) s) ≡ setting (length es) s
own-base [] s i e = refl
own-base (e ∷ es) s i z = go (eqb (s % 2) 1) (own-base es (s / 2) (i + 1)) z
  where
    go : (b : Bool)
        → (length (places (i + 1) (setting (length es) (s / 2))) ≡ 0
        → public_only es (setting (length es) (s / 2)) ≡ setting (length es) (s / 2))
        → length (places i (b ∷ setting (length es) (s / 2))) ≡ 0
        → public_only (e ∷ es) (b ∷ setting (length es) (s / 2)) ≡ b ∷ setting (length es) (s / 2)
    go true f z = absurd (omega arith)
    go false f z = ap₂ (λ (c : Bool) (y : List Bool). c ∷ y) (zero-and (is_public e)) (f z)

module _ (s : Sizes) (text codes ws o r g w b z s0 s1 s2 s3 p : List ℕ) where
  abbrev lengths : List ℕ
  lengths = length o ∷ length r ∷ length g ∷ length w ∷ length b ∷ length z ∷ length s0 ∷ length s1 ∷ length s2 ∷ length
      s3 ∷ length p ∷ []

  -- questions 1 to 9, and then 10, 11, 21 and 12
  pub call-not : {q : ℕ} → ask 1 (tables_long (masked_limits s) lengths) (read_netlist (masked_limits s) text)
      ≡ refused q
      → refused q ≡ call s text codes ws o r g w b z s0 s1 s2 s3 p
  unfolding wide_call
  call-not e = sym (call-refused (tables_long (masked_limits s) lengths) (read_netlist (masked_limits s) text)
      (wide_outcome codes ws) e)

  pub call-read : {n : NetlistTables} {a : Outcome (BothAnswers WideLeak)}
      → (tables_long (masked_limits s) lengths ≡ true) × TakenOf (masked_limits s) text n
      → ((N : Netlist) → HoldsNetlist n N → WellFormed N → a ≡ wide_outcome codes ws N)
      → a ≡ call s text codes ws o r g w b z s0 s1 s2 s3 p
  unfolding wide_call
  call-read k f =
      f k.1.is k.1.holds (accepted (masked_limits s) text k.1.is k.1.read).formed
      ∙ sym (call-goes-on (tables_long (masked_limits s) lengths) (read_netlist (masked_limits s) text)
      (wide_outcome codes ws) k.0 k.1.read)

  -- a call with both answers: the netlist that was read, and its outcome
  call-done : (a : BothAnswers WideLeak) → done a ≡ call s text codes ws o r g w b z s0 s1 s2 s3 p
      → (N : Netlist) × (read_netlist (masked_limits s) text ≡ done N) × (wide_outcome codes ws N ≡ done a)
  unfolding wide_call
  call-done a e =
      let one = (ask-done 1 (tables_long (masked_limits s) lengths)
      (and_then (read_netlist (masked_limits s) text) (wide_outcome codes ws)) a (sym e)).1 in
      and_then-done (read_netlist (masked_limits s) text) (wide_outcome codes ws) a one

  answers-are : (N : Netlist) (a : BothAnswers WideLeak) → wide_outcome codes ws N ≡ done a → wide_answers N codes ws
      ≡ a
  answers-are N a e =
      let q12 : Outcome (BothAnswers WideLeak) = ask 12 (few_reach N (length codes) ws) (done (wide_answers N codes ws))
      in
      let q21 : Outcome (BothAnswers WideLeak) = ask 21 (pairs_good N.wires ws) q12 in
      let q11 : Outcome (BothAnswers WideLeak) = ask 11 (list_good is_input_code (input_bits N - 2) codes) q21 in
      let ten = (ask-done 10 (ends_in_masks N.inputs) q11 a e).1 in
      let eleven = (ask-done 11 (list_good is_input_code (input_bits N - 2) codes) q21 a ten).1 in
      let more = (ask-done 21 (pairs_good N.wires ws) q12 a eleven).1 in
      let twelve = (ask-done 12 (few_reach N (length codes) ws) (done (wide_answers N codes ws)) a more).1 in
      done-same (wide_answers N codes ws) a twelve

  no-leak : (n : ℕ) (f : Option Found) → none ≡ listed n f → f ≡ none
  no-leak n none e = refl
  no-leak n (some f) e = clash (cc)

  some-leak : {P : Type 0} (n : ℕ) (f : Option Found) {l : WideLeak} → some l ≡ listed n f
      → ((x : Found) → f ≡ some x → P) → P
  some-leak n none e k = clash (cc)
  some-leak n (some f) e k = k f refl

  wires-judged : (v : std.Option search.WideLeak) (N : Netlist) → told_of v ≡ listed (length codes) (leak N codes)
      → WiresJudged N codes v
  wires-judged std.None N e = none-clean N codes (no-leak (length codes) (leak N codes) e)
  wires-judged (std.Some p) N e = λ clean. some-leak (length codes) (leak N codes) e
      (λ x h. let f = found-lowest N codes x h in
      f.breaks (clean x.wire f.wire))

  -- the ones of a leak
  ones-told : (N : Netlist) (p : WideLeak) → some p ≡ listed (length codes) (leak N codes)
      → (1 ≤ length p.ones) × Rising p.ones
  ones-told N p e = some-leak (length codes) (leak N codes) e (λ x h.
      let F = found-lowest N codes x h in
      let same : p.ones ≡ places 0 (setting (length codes) x.at) = some-ones (e ∙ ap (listed (length codes)) h) in (
        on_bool (leb 1 (length p.ones))
            (λ t. leb→le 1 (length p.ones) (true-T _ t))
            (λ t. absurd (F.other (sym (ap (count N codes x.wire) (own-base codes x.at 0
            (let z : length p.ones ≡ length (places 0 (setting (length codes) x.at)) = ap length same in
            let y = leb-false 1 (length p.ones) t in omega arith)))))),
        subst Rising (sym same) (places-rise 0 (setting (length codes) x.at)),
      ))

  pub call-ones : (a : Result WideFound Refusal) → outcome_of a ≡ call s text codes ws o r g w b z s0 s1 s2 s3 p
      → (f : WideFound) → a ≡ Ok f → (l : search.WideLeak) → f.leak ≡ std.Some l → OnesTold l
  call-ones (Err q) e f h l k = clash (cc)
  call-ones (Ok g) e f h l k =
      let same : g ≡ f = ok_same h in
      let found : g.leak ≡ std.Some l = ap (λ (x : WideFound). x.leak) same ∙ k in
      let a : BothAnswers WideLeak = both_of g in
      let d = call-done a e in
      let answers = answers-are d.0 a d.2 in
      let list : some (told l) ≡ listed (length codes) (leak d.0 codes)
      = sym (ap (λ (x : BothAnswers WideLeak). x.leak) answers ∙ ap told_of found) in
      let long = l.setting.long in
      let few = l.setting.few in
      let many : length (take l.setting.count l.setting.items) ≡ l.setting.count
      = length-take-le l.setting.count l.setting.items (omega arith) in
      let k = ones-told d.0 (told l) list in
      record { count = sym many; some = (let one = k.0 in omega arith); few = few; rising = k.1 }

  -- both answers follow the rules
  pub call-judged : (a : Result WideFound Refusal) → outcome_of a ≡ call s text codes ws o r g w b z s0 s1 s2 s3 p
      → (N : Netlist)
      → read_netlist (masked_limits s) text ≡ done N → Judged N codes ws a
  call-judged (Err q) e N read = tt
  call-judged (Ok f) e N read =
      let a : BothAnswers WideLeak = both_of f in
      let d = call-done a e in
      let h : wide_answers N codes ws ≡ a = answers-are N a (ap (wide_outcome codes ws)
      (done-same N d.0 (sym read ∙ d.1)) ∙ d.2) in (
        wires-judged f.leak N (sym (ap (λ (x : BothAnswers WideLeak). x.leak) h)),
        rw (ap (λ (x : BothAnswers WideLeak). x.pairs) h) at (pairs-judged N codes ws),
      )
