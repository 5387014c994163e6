-- Outputs that the end of a table keeps, and outputs that have marks.
use Prim.Native.Nat.{ℕ, ◌+◌, ◌-◌, ◌≤◌, ◌<◌}
use mathlib.Core.Path.{◌≡◌, refl, ap, ◌∙◌, subst}
use mathlib.Core.Bool.{true, false}
use mathlib.Core.List.{List, [], ◌++◌, map}
use mathlib.Core.Option.{some}
use native.Mathlib.Omega.{arith}
use lib.ListN.{length, take, drop}
use borrow.Rule.Slice.PartMut.{mid_of, put_mid}
use Rattle.netlist.specs.Lists.{every}
use Rattle.netlist.specs.Table.{Tables, tables}
use Rattle.aiger.specs.File.{Literal, literal, File}
use Rattle.aiger.specs.Lines.{Head, file}
use Rattle.aiger.specs.Rules.{readable, giving, rules_kept}
use Rattle.aiger.specs.Made.{build}
use Rattle.from_aiger.specs.Places.{Places, Standing}
use Rattle.from_aiger.specs.StepAnswers.{InputsAt}
use Rattle.from_aiger.specs.AndAnswers.{AndsAt}
use Rattle.from_aiger.specs.OutAnswers.{LiteralsAt, OutputsIs, PutOut, MarksAt}
use Rattle.from_aiger.specs.WholeAnswers.{LinesAt}
use Rattle.from_aiger.proofs.TableEnd.{kept-long, both-kept, both-front}
use Rattle.from_aiger.proofs.WholeLines.{input_wires, lines-no-outs, lines-made, lines-large}

-- ---- literals at the end of the table of results

module _ (H : Head) (left : List (List (List ℕ))) (r kept : List ℕ) (fits : H.outputs ≤ length r)
    (long : length kept ≡ length (mid_of (length r - H.outputs) (length r - (length r - H.outputs)) r)) where
  abbrev room : ℕ
  room = length r - H.outputs

  abbrev end : List ℕ
  end = put_mid room (length r - room) r kept

  inside : room ≤ length r
  inside = omega arith

  all-kept : length kept ≡ H.outputs
  all-kept = let l = kept-long r kept room inside long in omega arith

  pub kept-literals : {rest : List (List (List ℕ))} → LiteralsAt left (length kept) (map literal kept) rest
      → LiteralsAt left H.outputs (map literal kept) rest
  kept-literals {rest} B = subst (λ (k : ℕ). LiteralsAt left k (map literal kept) rest) all-kept B

  module _ (front : List ℕ) (same : length front ≡ length (take room end)) where
    abbrev whole : List ℕ
    whole = front ++ drop room end

    following : drop room whole ≡ kept
    following = both-kept r kept room inside long front same

    pub whole-outputs : length (drop room whole) ≡ H.outputs
    whole-outputs = ap length following ∙ all-kept

    module _ (ls : List (List (List ℕ))) {rest end₁ : List (List (List ℕ))} {table after o : List ℕ} {k : ℕ}
        {u : Tables}
        (A : InputsAt ls H.inputs H.most table left)
        (B : LiteralsAt left H.outputs (map literal kept) rest)
        (D : AndsAt rest H.ands H.most H.inputs (giving [] A.are) (input_wires H.most H.inputs A.are) after
        (tables o front) k end₁) where
      pub whole-no-outs : OutputsIs after o whole u room H.inputs k false → (F : File) → file H ls ≡ some F
          → rules_kept F ≡ true → ⊥
      whole-no-outs O = lines-no-outs H ls A B D (rw following at (O.read _ _ D.standing.places))

      pub whole-made : OutputsIs after o whole u room H.inputs k true → LinesAt H ls u (k + H.outputs)
      whole-made O =
          let N = build (input_wires H.most H.inputs A.are) H.inputs D.are in
          let S : Standing after (tables o (take room whole)) H.inputs k
          (giving (giving [] A.are) (map (λ a. a.left) D.are)) N.table N.gates =
          rw (both-front r kept room inside long front same) D.standing in
          lines-made H ls A B D (rw following at (O.read _ _ D.standing.places))
          (rw (whole-outputs, following) at (O.keeps refl _ _ _ S))

-- ---- marks

module _ (H : Head) (ls : List (List (List ℕ))) {left rest end₁ : List (List (List ℕ))} {table : List ℕ}
    (A : InputsAt ls H.inputs H.most table left)
    {marks : List ℕ} (B : MarksAt left H.outputs H.most marks rest) {after : List ℕ} {tabs : Tables} {k : ℕ}
    (D : AndsAt rest H.ands H.most H.inputs (giving [] A.are) (input_wires H.most H.inputs A.are) after tabs k end₁)
  where
    pub marks-no-outs : ((given wires : List ℕ) (are : List Literal) → Places after given wires
        → PutOut H.most marks are
        → false ≡ every (readable given) are)
        → (F : File) → file H ls ≡ some F → rules_kept F ≡ true → ⊥
    marks-no-outs h = lines-no-outs H ls A B.literals D (h _ _ B.are D.standing.places B.out)

    pub marks-made : {u : Tables} → ((given wires : List ℕ) (are : List Literal) → Places after given wires
        → PutOut H.most marks are → true ≡ every
        (readable given) are)
        → length u.results < H.outputs → LinesAt H ls u (k + H.outputs)
    marks-made h l = lines-large H ls A B.literals D (h _ _ B.are D.standing.places B.out) (omega arith)
