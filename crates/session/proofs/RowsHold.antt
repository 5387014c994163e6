-- After any row of steps from an opening the lists hold the present source gates, and the masked gates of masking them
-- afresh.
use Prim.Native.Nat.{ℕ, suc, ◌-◌}
use mathlib.Core.Path.{◌≡◌, refl, ap, ap₂, ◌∙◌}
use mathlib.Core.Bool.{Bool}
use mathlib.Core.List.{List, [], ◌∷◌, ◌++◌, map}
use native.Mathlib.Omega.{arith}
use lib.Dec.{leb, le→leb}
use lib.ListN.{length, take, length-set}
use lib.Seq.{length-sets, take_at}
use Rattle.netlist.specs.declared.Gate.{Gate}
use Rattle.netlist.specs.declared.Sizes.{Sizes}
use Rattle.netlist.specs.Outcome.{Outcome, refused, done, ask, and_then}
use Rattle.masking.specs.Mask.{result_twin}
use Rattle.netlist.proofs.Tests.{is_true}
use Rattle.gates.specs.declared.records.GateRecord.{GateRecord}
use Rattle.gates.specs.declared.records.SourceRecord.{SourceRecord}
use Rattle.gates.specs.Records.{record_of, source_record}
use Rattle.session.specs.Afresh.{afresh, open_gates}
use Rattle.session.specs.Asked.{opening, adding, taking_off}
use Rattle.session.specs.Lists.{Lists, left, present, steps, asked, off_asked, added, opened_lists}
use Rattle.session.specs.Rows.{Holds, Move, add, take_off, stepped, stepped_all, presents, presents_all}
use Rattle.session.proofs.Keeps.{adding-is, admitted-holds, length_more}
use Rattle.session.proofs.Less.{Last, nothing, last, last_of, taken_off-holds}
use Rattle.session.proofs.Opens.{opened-holds}

-- a step keeps what is held and the lengths of the lists
record Kept (z : Sizes) (codes : List ℕ) (gs : List Gate) (L L' : Lists) : Type 0 where
  holds : Holds z codes gs L'
  sources : length L'.source ≡ length L.source
  maskeds : length L'.masked ≡ length L.masked

module _ (z : Sizes) (codes : List ℕ) where
  stays : {gs : List Gate} (L : Lists) → Holds z codes gs L → Kept z codes gs L L
  stays L h = record { holds = h; sources = refl; maskeds = refl }

  add_kept : (gs : List Gate) (L : Lists) (r : GateRecord) → Holds z codes gs L
      → Kept z codes (left gs (adding z codes (length L.source) (length L.masked) gs r)) L (stepped z codes L (add r))
  add_kept gs L r h = rw (adding-is h r) (go (asked z codes L r) (λ g e. admitted-holds h r g e))
    where
      go : (o : Outcome Gate) → ((g : Gate) → o ≡ done g → Holds z codes (gs ++ (g ∷ [])) (added codes L g))
          → Kept z codes (left gs (and_then o λ g. done (gs ++ (g ∷ [])))) L
          (left L (and_then o λ g. done (added codes L g)))
      go (refused q) f = stays L h
      go (done g) f = record {
        holds = f g refl;
        sources = length-set L.source L.session.gates (source_record (record_of g) (result_twin (present codes L) g)
            L.session.masked);
        maskeds = length-sets L.masked L.session.masked (map record_of (steps codes L g));
      }

  off-is : (hs : List Gate) (g : Gate) → taking_off (hs ++ (g ∷ [])) ≡ done hs
  unfolding taking_off
  off-is hs g =
      let m : length (hs ++ (g ∷ [])) ≡ suc (length hs) = omega (arith, length_more hs g) in
      ap₂ (λ (b : Bool) (gs : List Gate). ask 23 b (done gs))
      (is_true (leb 1 (length (hs ++ (g ∷ [])))) (le→leb 1 (length (hs ++ (g ∷ []))) (omega arith)))
      (take_at hs (g ∷ []) (length (hs ++ (g ∷ [])) - 1) (omega arith))

  off-kept : {gs : List Gate} (L : Lists) → Last gs → Holds z codes gs L → Kept z codes (left gs (taking_off gs)) L
      (stepped z codes L take_off)
  unfolding taking_off off_asked
  off-kept L nothing h = rw (ap (leb 1) h.gates) (stays L h)
  off-kept L (last hs g) h =
      let e = is_true (leb 1 L.session.gates) (le→leb 1 L.session.gates (omega (arith, h.gates, length_more hs g))) in
      let k = taken_off-holds z codes hs g L h in
      rw (off-is hs g) (rw e (record { holds = k; sources = refl; maskeds = refl }))

  step_kept : (gs : List Gate) (L : Lists) (m : Move) → Holds z codes gs L
      → Kept z codes (presents z codes (length L.source) (length L.masked) gs m) L (stepped z codes L m)
  step_kept gs L (add r) h = add_kept gs L r h
  step_kept gs L take_off h = off-kept L (last_of gs) h

  pub row-holds : (ms : List Move) (gs : List Gate) (L : Lists) → Holds z codes gs L
      → Holds z codes (presents_all z codes (length L.source) (length L.masked) gs ms) (stepped_all z codes L ms)
  row-holds [] gs L h = h
  row-holds (m ∷ ms) gs L h =
      let k = step_kept gs L m h in
      rw (k.sources, k.maskeds) at (row-holds ms (presents z codes (length L.source) (length L.masked) gs m)
      (stepped z codes L m) k.holds)

-- the theorem: after any row of steps from an opening
module _ (z : Sizes) (widths codes : List ℕ) (source : List SourceRecord) (masked : List GateRecord) {none : List Gate}
    (opens : opening z widths codes (length masked) ≡ done none) (ms : List Move) where
  abbrev gates : List Gate
  gates = presents_all z codes (length source) (length masked) [] ms

  abbrev after_all : Lists
  after_all = stepped_all z codes (opened_lists codes source masked) ms

  pub row-from-opening : Holds z codes gates after_all
  row-from-opening =
      rw (length-sets masked 0 (map record_of (open_gates codes))) at
      (row-holds z codes ms [] (opened_lists codes source masked) (opened-holds z widths codes source masked opens).1)

  -- the masked gates are those of masking the present list afresh
  pub masked-afresh : take after_all.session.masked after_all.masked ≡ map record_of (afresh codes gates)
  masked-afresh = ap (λ (k : ℕ). take k after_all.masked) row-from-opening.masked ∙ row-from-opening.maskeds
