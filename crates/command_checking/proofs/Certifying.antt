-- From the certifier's promise to what is said of a text.
use Prim.Native.Nat.{ℕ, ◌<◌, ◌≤◌}
use Rattle.std.specs.Prelude.{Result, Ok, Err, Option, Some, None, get_or}
use mathlib.Core.Path.{◌≡◌, sym, ap, ◌∙◌, refl}
use mathlib.Core.Bool.{Bool}
use mathlib.Core.List.{List, [], ◌∷◌}
use lib.ListN.{length}
use Rattle.std.proofs.lemmas.List.Edits.{sets}
use Rattle.netlist.specs.declared.Refusal.{Refusal}
use Rattle.netlist.specs.declared.Sizes.{Sizes}
use Rattle.netlist.specs.Netlist.{Netlist, masked_limits}
use Rattle.netlist.specs.Outcome.{Outcome, refused, done, ask, and_then}
use Rattle.netlist.specs.Read.{read_netlist}
use Rattle.netlist.specs.Services.{tables_long}
use Rattle.netlist.proofs.Questions.{ask-done, and_then-done, done-same, refused-done}
use Rattle.masking.specs.Leak.{Clean, EqualCounts, public_only, count, SamePublic}
use Rattle.masking.proofs.Settings.{length-public_only, public_only-twice}
use Rattle.questions.specs.Asked.{codes_asked}
use Rattle.certify.specs.declared.judge.Verdict.{Verdict}
use Rattle.certify.specs.declared.judge.Verdict.TheVariants as found
use Rattle.leak_search.specs.declared.difference.Leak.{Leak as LeakFound}
use Rattle.certify.specs.Judge.{Judged, JudgedBy, LeakIn}
use Rattle.certify.specs.Promise.{codes_for, certify_call, Answers, Promise}
use Rattle.command_checking.specs.Says.{Reads}

-- a netlist that was asked for, and what holds of it
record Asked (asked : Outcome Netlist) (P : Netlist → Type 0) : Type 0 where
  netlist : Netlist
  is : asked ≡ done netlist
  judged : P netlist

-- a netlist that was read, and what holds of it
record Read (s : Sizes) (text : List ℕ) (P : Netlist → Type 0) : Type 0 where
  netlist : Netlist
  read : read_netlist (masked_limits s) text ≡ done netlist
  judged : P netlist

-- an answer that is no refusal judges the netlist that was asked for
answered-of : {codes leak leak' ones ones' : List ℕ} (v : Verdict) (asked : Outcome Netlist)
    → Answers asked codes leak leak' ones ones' (Ok v) → Asked asked (λ N. Judged N codes leak leak' ones ones' (Ok v))
answered-of v (refused q) A = absurd (refused-done q v (sym (A.refused q refl).0))
answered-of v (done N) A = record { netlist = N; is = refl; judged = A.judged N refl }

-- the netlist that was asked for is the one that was read
asked-read : (s : Sizes) (text codes tables : List ℕ) (N : Netlist)
    → certify_call (masked_limits s) tables text codes ≡ done N → read_netlist (masked_limits s) text ≡ done N
unfolding certify_call
asked-read s text codes tables N e =
    let one = (ask-done 1 (tables_long (masked_limits s) tables) _ N e).1 in
    let two = and_then-done (read_netlist (masked_limits s) text) (codes_for codes) N one in
    let three = and_then-done (codes_asked two.0.inputs codes) (λ u. done two.0) N two.2 in
    two.1 ∙ three.2

-- what holds of a number holds of its equal
moved : (x y : ℕ) (F : ℕ → Type 0) → x ≡ y → F y → F x
moved x y F e h = rw e h

-- a leak that is told breaks the rule
leak-breaks : {N : Netlist} {codes : List ℕ} {w b o : ℕ} {x : List Bool} → LeakIn N codes w b o x → Clean N codes → ⊥
leak-breaks {N} {codes} {w} {b} {o} {x} L clean =
    let same : SamePublic codes (public_only codes x) x =
    record { first = length-public_only codes x; second = L.long; public = public_only-twice codes x } in
    L.differ (L.base ∙ clean w L.wire (public_only codes x) x same ∙ sym L.own)

-- what each answer says, by what is found
module _ (N : Netlist) (codes leak leak' ones ones' : List ℕ) where
  clean-said : (left : Option ℕ) (p : Option (LeakFound ℕ)) (words : List ℕ)
      → JudgedBy N codes leak leak' ones ones' left p words (Ok found.Clean) → Clean N codes
  clean-said None p words h = h.0
  clean-said (Some w) (Some p) words h = absurd h
  clean-said (Some w) None words h = absurd h

  leak-said : (left : Option ℕ) (p : Option (LeakFound ℕ)) (words : List ℕ)
      → JudgedBy N codes leak leak' ones ones' left p words (Ok found.Leak) → Clean N codes → ⊥
  leak-said None p words h = absurd h
  leak-said (Some w) (Some p) words h = leak-breaks h.found
  leak-said (Some w) None words h = absurd h

  unknown-said : leak ≡ 0 ∷ 0 ∷ 0 ∷ 0 ∷ [] → (left : Option ℕ) (p : Option (LeakFound ℕ)) (words : List ℕ)
      → JudgedBy N codes leak leak' ones ones' left p words (Ok found.Unknown)
      → (get_or leak' 0 0 < N.wires) × ((w : ℕ) → w < get_or leak' 0 0 → EqualCounts N codes w)
  unknown-said zeros None p words h = absurd h
  unknown-said zeros (Some wire) (Some p) words h = absurd h
  unknown-said zeros (Some wire) None words h =
      let told = h.0 in
      let first : get_or leak' 0 0 ≡ wire =
      ap (λ (l : List ℕ). get_or l 0 0) told.number ∙ ap (λ (l : List ℕ). get_or (sets l 0 (wire ∷ [])) 0 0) zeros in
      let below : ℕ → Type 0 = λ x. (x < N.wires) × ((w : ℕ) → w < x → EqualCounts N codes w) in
      moved _ _ below first (told.inside, told.lower)

module _ {s : Sizes} {text codes leak leak' ones ones' o o' r r' g g' w w' b b' t t' : List ℕ} where
  certified-of : (v : Verdict) → Promise s text codes leak leak' ones ones' o o' r r' g g' w w' b b' t t' (Ok v)
      → Read s text (λ N. Judged N codes leak leak' ones ones' (Ok v))
  certified-of v P =
      let k = answered-of v _ P.answers in
      record { netlist = k.netlist; read = asked-read s text codes _ k.netlist k.is; judged = k.judged }

  certified-clean : Promise s text codes leak leak' ones ones' o o' r r' g g' w w' b b' t t' (Ok found.Clean)
      → Reads text (λ N. Clean N codes)
  certified-clean P =
      let k = certified-of found.Clean P in
      let F = k.judged.finding in
      record {
        sizes = s;
        netlist = k.netlist;
        read = k.read;
        holds = clean-said k.netlist codes leak leak' ones ones' F.left F.found F.words k.judged.says;
      }

  certified-leak : Promise s text codes leak leak' ones ones' o o' r r' g g' w w' b b' t t' (Ok found.Leak)
      → Reads text (λ N. Clean N codes → ⊥)
  certified-leak P =
      let k = certified-of found.Leak P in
      let F = k.judged.finding in
      record {
        sizes = s;
        netlist = k.netlist;
        read = k.read;
        holds = leak-said k.netlist codes leak leak' ones ones' F.left F.found F.words k.judged.says;
      }

  certified-unknown : leak ≡ 0 ∷ 0 ∷ 0 ∷ 0 ∷ []
      → Promise s text codes leak leak' ones ones' o o' r r' g g' w w' b b' t t' (Ok found.Unknown)
      → Reads text (λ N. (get_or leak' 0 0 < N.wires) × ((w : ℕ) → w < get_or leak' 0 0 → EqualCounts N codes w))
  certified-unknown zeros P =
      let k = certified-of found.Unknown P in
      let F = k.judged.finding in
      record {
        sizes = s;
        netlist = k.netlist;
        read = k.read;
        holds = unknown-said k.netlist codes leak leak' ones ones' zeros F.left F.found F.words k.judged.says;
      }

  -- the same of an answer that is known to be one of the three
  module _ {a : Result Verdict Refusal} (P : Promise s text codes leak leak' ones ones' o o' r r' g g' w w' b b' t t' a) where
    pub says_clean : (v : Verdict) → a ≡ Ok v → v ≡ found.Clean → Reads text (λ N. Clean N codes)
    says_clean v e i =
        let k : a ≡ Ok found.Clean = e ∙ ap {B = Result Verdict Refusal} (λ (u : Verdict). Ok u) i in
        certified-clean (rw (← k) P)

    pub says_leak : (v : Verdict) → a ≡ Ok v → v ≡ found.Leak → Reads text (λ N. Clean N codes → ⊥)
    says_leak v e i =
        let k : a ≡ Ok found.Leak = e ∙ ap {B = Result Verdict Refusal} (λ (u : Verdict). Ok u) i in
        certified-leak (rw (← k) P)

    pub says_unknown : (v : Verdict) → a ≡ Ok v → v ≡ found.Unknown → leak ≡ 0 ∷ 0 ∷ 0 ∷ 0 ∷ []
        → Reads text (λ N. (get_or leak' 0 0 < N.wires) × ((w : ℕ) → w < get_or leak' 0 0 → EqualCounts N codes w))
    says_unknown v e i zeros =
        let k : a ≡ Ok found.Unknown = e ∙ ap {B = Result Verdict Refusal} (λ (u : Verdict). Ok u) i in
        certified-unknown zeros (rw (← k) P)
