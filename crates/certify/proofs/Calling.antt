-- From a netlist that was read, and judged, to the certifier's promise.
use Prim.Native.Nat.{ℕ, ◌/◌, ◌≤◌}
use Rattle.std.specs.Prelude.{Result, Err}
use mathlib.Core.Path.{◌≡◌, refl, sym, ap, ◌∙◌, subst}
use mathlib.Core.Bool.{true}
use mathlib.Core.List.{List, [], ◌∷◌}
use lib.ListN.{length}
use Rattle.netlist.specs.declared.Refusal.{Refusal}
use Rattle.netlist.specs.Refusal.{number_of}
use Rattle.netlist.specs.declared.Sizes.{Sizes}
use Rattle.netlist.specs.Netlist.{Netlist, masked_limits}
use Rattle.netlist.specs.Outcome.{Outcome, refused, done, ask, and_then}
use Rattle.netlist.specs.Read.{read_netlist, WellFormed}
use Rattle.netlist.specs.Services.{tables_long}
use Rattle.netlist.proofs.Accepted.{accepted}
use Rattle.netlist.proofs.Answering.{call-refused, call-goes-on}
use Rattle.netlist.proofs.Questions.{done-same}
use Rattle.netlist.proofs.Tests.{clash}
use Rattle.reader.specs.declared.netlist_tables.NetlistTables.{NetlistTables}
use Rattle.reader.specs.Tables.{HoldsNetlist}
use Rattle.reader.specs.Taken.{TakenOf}
use Rattle.questions.specs.Asked.{codes_asked}
use Rattle.certify.specs.declared.judge.Verdict.{Verdict}
use Rattle.netlist.specs.declared.Sizes.TheVariants.{Standard, Whole}
use native.Mathlib.Omega.{arith}
use Rattle.certify.specs.Pass.{Masking, most_wires}
use Rattle.certify.specs.Judge.{Judged, JudgedAs}
use Rattle.certify.specs.Promise.{codes_for, certify_call, call, Answers}

-- a refusal is no netlist
no-netlist : {P : Type 0} {q : ℕ} {N : Netlist} → refused q ≡ done N → P
no-netlist e = clash (cc)

same-question : {p q : ℕ} → ◌≡◌ {A = Outcome Netlist} (refused p) (refused q) → p ≡ q
same-question e = cc

-- questions 10 and 11: what they refuse, and when they are passed
codes-refused : (o : Outcome Unit) (N : Netlist) (q : ℕ) → and_then o (λ u. done N) ≡ refused q → o ≡ refused q
codes-refused (refused p) N q e = ap refused (same-question e)
codes-refused (done u) N q e = no-netlist (sym e)

codes-passed : (o : Outcome Unit) (N M : Netlist) → and_then o (λ u. done N) ≡ done M → (o ≡ done tt) × (N ≡ M)
codes-passed (refused p) N M e = no-netlist e
codes-passed (done u) N M e = (refl, done-same N M e)

-- the large limits are below the most wires that have atoms
few-wires : (s : Sizes) (N : Netlist) → N.wires ≤ (masked_limits s).wires → N.wires ≤ most_wires
few-wires Standard N h = omega arith
few-wires Whole N h = omega arith

module _ (s : Sizes) (text codes o r g w b t : List ℕ) where
  abbrev lengths : List ℕ
  lengths = length o ∷ length r ∷ length g ∷ length w ∷ length b ∷ length t / 15 ∷ []

  -- questions 1 to 9 refuse
  pub answer-not : {q : Refusal} (leak ones : List ℕ) → ask 1 (tables_long (masked_limits s) lengths)
      (read_netlist (masked_limits s) text) ≡ refused (number_of q)
      → Answers (call s text codes o r g w b t) codes leak leak ones ones (Err q)
  unfolding certify_call
  answer-not {q} leak ones p =
      let e : call s text codes o r g w b t ≡ refused (number_of q) =
      call-refused (tables_long (masked_limits s) lengths) (read_netlist (masked_limits s) text) (codes_for codes) p in
      record {
        refused = λ k f. (ap {B = Outcome Verdict} refused (same-question (sym e ∙ f)), refl, refl);
        judged = λ N f. no-netlist (sym e ∙ f);
        masking = λ N out_codes f M. no-netlist (sym e ∙ f);
      }

  -- or the netlist is judged
  pub answer-read : {n : NetlistTables} {leak leak' ones ones' : List ℕ} {a : Result Verdict Refusal}
      → (tables_long (masked_limits s) lengths ≡ true) × TakenOf (masked_limits s) text n
      → ((N : Netlist) → HoldsNetlist n N → WellFormed N → JudgedAs N codes leak leak' ones ones' a)
      → Answers (call s text codes o r g w b t) codes leak leak' ones ones' a
  unfolding certify_call
  answer-read {leak = leak} {leak' = leak'} {ones = ones} {ones' = ones'} {a = a} k f =
      let M = k.1.is in
      let e : call s text codes o r g w b t ≡ codes_for codes M =
      call-goes-on (tables_long (masked_limits s) lengths) (read_netlist (masked_limits s) text) (codes_for codes) k.0
      k.1.read in
      let J = f M k.1.holds (accepted (masked_limits s) text M k.1.read).formed in
      record {
        refused = λ q g. J.refused q (codes-refused (codes_asked M.inputs codes) M q (sym e ∙ g));
        judged = λ N g.
            let p = codes-passed (codes_asked M.inputs codes) M N (sym e ∙ g) in
            subst (λ (X : Netlist). Judged X codes leak leak' ones ones' a) p.1 (J.judged p.0);
        masking = λ N out_codes g G.
            let p = codes-passed (codes_asked M.inputs codes) M N (sym e ∙ g) in
            let G' : Masking M codes out_codes = subst (λ (X : Netlist). Masking X codes out_codes) (sym p.1) G in
            J.masking out_codes p.0 G' (few-wires s M (accepted (masked_limits s) text M k.1.read).within.wires);
      }
