-- What an answer of the certifier's says.
use Rattle.std.specs.Prelude.{ℕ, ◌<◌, ◌≤◌, Bool, List, [], ◌∷◌, ◌≢◌, ◌⊎◌, ◌≡◌, length, Option, Some, None, IfSome}
use Rattle.std.specs.Prelude.{Result, Ok, Err}
use Rattle.std.proofs.lemmas.List.Edits.{sets}
use Rattle.netlist.specs.Netlist.{Netlist}
use Rattle.masking.specs.Leak.{count, public_only, EqualCounts}
use Rattle.masking.specs.Leak as L
use Rattle.netlist.specs.Outcome.{Outcome, refused, done}
use Rattle.questions.specs.Asked.{codes_asked}
use Rattle.netlist.specs.declared.Refusal.{Refusal}
use Rattle.netlist.specs.Refusal.{number_of}
use Rattle.netlist.specs.Services.{stands_for}
use Rattle.certify.specs.declared.judge.Verdict.{Verdict}
use Rattle.certify.specs.declared.judge.Verdict.TheVariants.{Clean, Leak, Unknown}
use Rattle.leak_search.specs.declared.difference.Leak.{Leak as LeakFound}
use Rattle.certify.specs.Pass.{LowestUnmarked, Masking, most_wires}
use Rattle.certify.specs.Step.{passed}
use Rattle.certify.specs.Round.{setting_in}
use Rattle.certify.specs.Search.{Searches}
use Rattle.certify.specs.Ones.{ones_in}

-- a leak: in a setting, a wire has a count that is not that of the setting with the same public bits and zero secrets
pub record LeakIn (N : Netlist) (codes : List ℕ) (w b o : ℕ) (x : List Bool) : Type 0 where
  pub long : length x ≡ length codes
  pub wire : w < N.wires
  pub own : o ≡ count N codes w x
  pub base : b ≡ count N codes w (public_only codes x)
  pub differ : b ≢ o

-- what the certifier finds of a netlist under input codes: the lowest wire that the pass does not show to be clean, if
-- there is one; and then what the search finds, with the words of its round. The netlist and the codes fix all of it.
pub record Finding (N : Netlist) (codes : List ℕ) : Type 0 where
  pub left : Option ℕ
  pub passes : LowestUnmarked (passed N.wires N.wires codes N.gates).marks N.wires left
  pub found : Option (LeakFound ℕ)
  pub words : List ℕ
  pub searches : IfSome left (λ w. Searches N codes found words)

-- a leak is told: its wire, how many input bits are one in its setting, the base's count and its own in the first list,
-- and those bits in the second
pub record LeakTold (N : Netlist) (codes : List ℕ) (p : LeakFound ℕ) (words leak leak' ones ones' : List ℕ) : Type 0
  where
    pub found : LeakIn N codes p.wire p.base p.own (setting_in codes words p.setting)
    pub room : 4 ≤ length leak
    pub fits : length (ones_in (setting_in codes words p.setting)) ≤ length ones
    pub numbers : leak' ≡ sets leak 0 (p.wire ∷ length (ones_in (setting_in codes words p.setting)) ∷ p.base ∷ p.own ∷ [])
    pub bits : ones' ≡ sets ones 0 (ones_in (setting_in codes words p.setting))

-- a wire is told below which all are clean
pub record UnknownTold (N : Netlist) (codes : List ℕ) (wire : ℕ) (leak leak' : List ℕ) : Type 0 where
  pub inside : wire < N.wires
  pub lower : (w : ℕ) → w < wire → EqualCounts N codes w
  pub room : 1 ≤ length leak
  pub number : leak' ≡ sets leak 0 (wire ∷ [])

-- there is a leak for whose numbers or bits a list is too short
pub record LeakShort (N : Netlist) (codes : List ℕ) (p : LeakFound ℕ) (words leak ones : List ℕ) : Type 0 where
  pub found : LeakIn N codes p.wire p.base p.own (setting_in codes words p.setting)
  pub short : (length leak < 4) ⊎ (length ones < length (ones_in (setting_in codes words p.setting)))

-- what an answer says by what is found, with both lists before and after: where the pass leaves no wire, every wire is
-- clean; where the search finds a leak, it is told; otherwise the wire that is left is told. Where a list is too short
-- for what it is to be told, question 14 is answered, and neither is written
abbrev pub JudgedBy : Netlist → List ℕ → List ℕ → List ℕ → List ℕ → List ℕ → Option ℕ → Option (LeakFound ℕ) → List ℕ
    → Result Verdict Refusal → Type 0
JudgedBy N codes leak leak' ones ones' None f words (Ok Clean) = L.Clean N codes × (leak' ≡ leak) × (ones' ≡ ones)
JudgedBy N codes leak leak' ones ones' None f words (Ok Leak) = ⊥
JudgedBy N codes leak leak' ones ones' None f words (Ok Unknown) = ⊥
JudgedBy N codes leak leak' ones ones' None f words (Err q) = ⊥
JudgedBy N codes leak leak' ones ones' (Some w) (Some p) words (Ok Clean) = ⊥
JudgedBy N codes leak leak' ones ones' (Some w) (Some p) words (Ok Leak) = LeakTold N codes p words leak leak' ones
    ones'
JudgedBy N codes leak leak' ones ones' (Some w) (Some p) words (Ok Unknown) = ⊥
JudgedBy N codes leak leak' ones ones' (Some w) (Some p) words (Err q) =
    (number_of q ≡ 14) × LeakShort N codes p words leak ones × (leak' ≡ leak) × (ones' ≡ ones)
JudgedBy N codes leak leak' ones ones' (Some w) None words (Ok Clean) = ⊥
JudgedBy N codes leak leak' ones ones' (Some w) None words (Ok Leak) = ⊥
JudgedBy N codes leak leak' ones ones' (Some w) None words (Ok Unknown) = UnknownTold N codes w leak leak'
    × (ones' ≡ ones)
JudgedBy N codes leak leak' ones ones' (Some w) None words (Err q) = (number_of q ≡ 14) × (length leak < 1)
    × (leak' ≡ leak) × (ones' ≡ ones)

-- what an answer says of a netlist under input codes, with both lists before and after
pub record Judged (N : Netlist) (codes leak leak' ones ones' : List ℕ) (a : Result Verdict Refusal) : Type 0 where
  pub finding : Finding N codes
  pub says : JudgedBy N codes leak leak' ones ones' finding.left finding.found finding.words a

-- .. where the pass leaves a wire
pub record JudgedLeft (N : Netlist) (codes : List ℕ) (wire : ℕ) (leak leak' ones ones' : List ℕ)
    (a : Result Verdict Refusal) : Type 0 where
  pub found : Option (LeakFound ℕ)
  pub words : List ℕ
  pub searches : Searches N codes found words
  pub says : JudgedBy N codes leak leak' ones ones' (Some wire) found words a

-- the outcome that an answer stands for
abbrev pub answered : Result Verdict Refusal → Outcome Verdict
answered a = stands_for (λ v. v) a

-- what an answer says with questions 10 and 11: the first that gets a no, with both lists as they were; or the verdict
pub record JudgedAs (N : Netlist) (codes leak leak' ones ones' : List ℕ) (a : Result Verdict Refusal) : Type 0 where
  pub refused : (q : ℕ) → codes_asked N.inputs codes ≡ refused q → (answered a ≡ refused q) × (leak' ≡ leak)
      × (ones' ≡ ones)
  pub judged : codes_asked N.inputs codes ≡ done tt → Judged N codes leak leak' ones ones' a
  -- what came about by masking is clean
  pub masking : (out_codes : List ℕ) → codes_asked N.inputs codes ≡ done tt → Masking N codes out_codes
      → N.wires ≤ most_wires → a ≡ Ok Clean
