-- From the lines of each kind to the file, and to the netlist made.
use Prim.Native.Nat.{ℕ, ◌+◌, ◌≤◌, ◌<◌}
use mathlib.Core.Path.{◌≡◌, refl, sym, ap, ◌∙◌}
use mathlib.Core.Bool.{true, false, not, ◌&&◌}
use mathlib.Core.List.{List, [], ◌∷◌, ◌++◌, map}
use mathlib.Core.Option.{some}
use native.Mathlib.Omega.{arith}
use lib.Dec.{eqb, leb}
use lib.ListN.{length, drop, replicate, length-append, length-replicate}
use lib.Seq.{drop-drop}
use borrow.Author.Tests.{eqb-true, leb-true}
use Rattle.netlist.specs.declared.Gate.{Gate}
use Rattle.netlist.specs.Lists.{every, member}
use Rattle.netlist.specs.Netlist.{Netlist}
use Rattle.netlist.specs.Table.{Tables}
use Rattle.netlist.proofs.Tests.{on_bool, both_true, true-T}
use Rattle.netlist.proofs.Questions.{some_same}
use Rattle.aiger.specs.File.{Literal, AndLine, File}
use Rattle.aiger.specs.Lines.{Head, input_line, output_line, and_form, formed, file}
use Rattle.aiger.specs.Rules.{readable, fresh, giving, fresh_all, and_good, ands_good, inputs_given, all_given}
use Rattle.aiger.specs.Rules.{rules_kept}
use Rattle.aiger.specs.Outputs.{enter, blank}
use Rattle.aiger.specs.Made.{wire_at, Built, build, out_gates, up_from, with_outputs, netlist_made}
use Rattle.aiger.proofs.Forms.{formed-length, Formed, file-formed, formed-file}
use Rattle.aiger.proofs.Making.{good_and, length-enter, inputs-located}
use Rattle.from_aiger.specs.Places.{Keeps, Standing}
use Rattle.from_aiger.proofs.Placing.{not_so}
use Rattle.from_aiger.specs.StepAnswers.{InputsAt}
use Rattle.from_aiger.specs.AndAnswers.{AndsAt}
use Rattle.from_aiger.specs.OutAnswers.{LiteralsAt, UpTo}
use Rattle.from_aiger.proofs.OutGates.{outs-length}
use Rattle.from_aiger.specs.WholeAnswers.{LinesAt}

-- the rules, one kind of line after another
rules-apart : (F : File) → rules_kept F ≡ true
    → (fresh_all F.most [] F.inputs ≡ true) × (ands_good F.most (inputs_given F) F.ands ≡ true)
    × (every (readable (all_given F)) F.outputs ≡ true)
rules-apart F e =
    let f = fresh_all F.most [] F.inputs in
    let a = ands_good F.most (inputs_given F) F.ands in
    let p = both_true (f && a) (every (readable (all_given F)) F.outputs) e in
    let q = both_true f a p.0 in
    (q.0, q.1, p.1)

-- none of the variables given is above M
up-to-more : (M v : ℕ) (given : List ℕ) → v ≤ M → UpTo M given → UpTo M (v ∷ given)
up-to-more M v given l h u m = on_bool (eqb u v) (λ e. let z = eqb-true u v e in omega arith) (λ e. h u (rw e at m))

fresh-up-to : (M : ℕ) (vs given : List ℕ) → UpTo M given → fresh_all M given vs ≡ true → UpTo M (giving given vs)
fresh-up-to M [] given h e = h
fresh-up-to M (v ∷ vs) given h e =
    let p = both_true (fresh M given v) (fresh_all M (v ∷ given) vs) e in
    let q = both_true (leb v M) (not (member v given)) p.0 in
    fresh-up-to M vs (v ∷ given) (up-to-more M v given (leb-true v M q.0) h) p.1

ands-up-to : (M : ℕ) (ls : List AndLine) (given : List ℕ) → UpTo M given → ands_good M given ls ≡ true
    → UpTo M (giving given (map (λ a. a.left) ls))
ands-up-to M [] given h e = h
ands-up-to M (a ∷ rest) given h e =
    let G = good_and M given a rest (true-T _ e) in
    ands-up-to M rest (a.left ∷ given) (up-to-more M a.left given G.low h)
    (both_true (and_good M given a) (ands_good M (a.left ∷ given) rest) e).1

-- the wires of the inputs' variables
abbrev pub input_wires : ℕ → ℕ → List ℕ → List ℕ
input_wires M n vs = enter (replicate (M + 1) 0) vs (up_from 0 n)

module _ (H : Head) (ls : List (List (List ℕ))) where
  module _ {table : List ℕ} {left : List (List (List ℕ))} (A : InputsAt ls H.inputs H.most table left) where
    abbrev given : List ℕ
    given = giving [] A.are

    abbrev wires : List ℕ
    wires = input_wires H.most H.inputs A.are

    many : length A.are ≡ H.inputs
    many = formed-length input_line H.inputs ls A.are A.lines

    pub wires-length : length wires ≡ H.most + 1
    wires-length = length-enter (replicate (H.most + 1) 0) A.are (up_from 0 H.inputs) ∙ length-replicate (H.most + 1) 0

    -- what stands before the first AND line
    pub standing-first : (tabs : Tables) → Standing table tabs H.inputs 0 given wires []
    standing-first tabs =
        let z : 0 + H.inputs ≡ H.inputs + 0 = omega arith in
        record {
          places = A.places;
          located = rw (many, z) at (inputs-located H.most A.are [] (replicate (H.most + 1) 0) 0
              (length-replicate (H.most + 1) 0) (λ v h. absurd h)
              (true-T _ A.new));
          size = refl;
          keeps = λ a b. record {
            gates = refl;
            wired = record {
              operands = a;
              results = b;
              each
                  = λ i h. absurd (omega arith);
            };
          };
        }

    -- an output above M, or no such outputs
    pub lines-no-marks : ((xs : List Literal) → formed output_line H.outputs left ≡ some xs
        → (vs : List ℕ) → UpTo H.most vs → every (readable vs) xs ≡ true → ⊥) → (F : File) → file H ls ≡ some F
        → rules_kept F ≡ true → ⊥
    lines-no-marks bad F e r =
        let f = file-formed H ls F e in
        let p = rules-apart F r in
        bad F.outputs (ap (formed output_line H.outputs) A.next ∙ f.outputs) (all_given F)
        (rw f.most at (ands-up-to F.most F.ands (inputs_given F) (fresh-up-to F.most F.inputs [] (λ v m. not_so m) p.0)
        p.1)) p.2

    same_inputs : (F : File) → Formed H ls F → F.inputs ≡ A.are
    same_inputs F f = some_same F.inputs A.are (sym f.inputs ∙ A.lines)

    module _ {outs : List Literal} {rest : List (List (List ℕ))} (B : LiteralsAt left H.outputs outs rest) where
      and-lines : rest ≡ drop (H.inputs + H.outputs) ls
      and-lines = B.next ∙ ap (drop H.outputs) A.next ∙ drop-drop H.outputs H.inputs ls

      outs-form : formed output_line H.outputs (drop H.inputs ls) ≡ some outs
      outs-form = ap (formed output_line H.outputs) (sym A.next) ∙ B.form

      -- no such AND lines
      pub lines-no-ands : ((xs : List AndLine) → formed and_form H.ands rest ≡ some xs → ands_good H.most given xs
          ≡ true → ⊥)
          → (F : File) → file H ls ≡ some F → rules_kept F ≡ true → ⊥
      lines-no-ands bad F e r =
          let f = file-formed H ls F e in
          let s = same_inputs F f in
          bad F.ands (ap (formed and_form H.ands) and-lines ∙ f.ands)
          (sym (ap (λ (m : ℕ). ands_good m (giving [] F.inputs) F.ands) f.most
          ∙ ap (λ (vs : List ℕ). ands_good H.most (giving [] vs) F.ands) s)
          ∙ (rules-apart F r).1)

      module _ {after : List ℕ} {tabs : Tables} {k : ℕ} {end : List (List (List ℕ))}
          (D : AndsAt rest H.ands H.most H.inputs given wires after tabs k end) where
        abbrev built₁ : Built
        built₁ = build wires H.inputs D.are

        abbrev given₁ : List ℕ
        given₁ = giving given (map (λ a. a.left) D.are)

        ands-form : formed and_form H.ands (drop (H.inputs + H.outputs) ls) ≡ some D.are
        ands-form = ap (formed and_form H.ands) (sym and-lines) ∙ D.form

        -- an output that is never given
        pub lines-no-outs : false ≡ every (readable given₁) outs → (F : File) → file H ls ≡ some F → rules_kept F ≡ true
            → ⊥
        lines-no-outs bad F e r =
            let f = file-formed H ls F e in
            let s = same_inputs F f in
            let a : F.ands ≡ D.are = some_same F.ands D.are (sym f.ands ∙ ands-form) in
            let o : F.outputs ≡ outs = some_same F.outputs outs (sym f.outputs ∙ outs-form) in
            not_so (bad ∙ sym (ap (λ (vs : List ℕ). every (readable (giving (giving [] vs) (map (λ a. a.left) F.ands)))
            F.outputs) s
            ∙ ap (λ (as₁ : List AndLine). every (readable (giving given (map (λ a. a.left) as₁))) F.outputs) a
            ∙ ap (every (readable given₁)) o) ∙ (rules-apart F r).2)

        abbrev made : File
        made = record { most = H.most; inputs = A.are; outputs = outs; ands = D.are }

        is-file : file H ls ≡ some made
        is-file = formed-file H ls made (record {
          most = refl;
          inputs = A.lines;
          outputs = outs-form;
          ands
              = ands-form;
        })

        same-made : netlist_made made ≡ with_outputs made built₁
        unfolding netlist_made
        same-made = ap (λ (i : ℕ). with_outputs made (build (enter (blank 0 made) A.are (up_from 0 i)) i D.are)) many

        outs-many : length outs ≡ H.outputs
        outs-many = formed-length output_line H.outputs left outs B.form

        -- the gates of AND lines and of outputs
        abbrev gates : List Gate
        gates = built₁.gates ++ out_gates (wire_at built₁.table) (H.inputs + k) outs

        gates-many : length gates ≡ k + H.outputs
        gates-many = length-append built₁.gates _ ∙ omega (
          arith,
          D.standing.size,
          outs-length (wire_at built₁.table)
              (H.inputs + k) outs,
          outs-many,
        )

        -- the file, and the netlist made of it
        pub lines-made : {u : Tables} → true ≡ every (readable given₁) outs → Keeps u (H.inputs + (k + H.outputs)) gates
            → LinesAt H ls u (k + H.outputs)
        lines-made {u} good keep = record {
          is = made;
          lines = is-file;
          rules = rw (A.new, D.good, ← good);
          wires = ap (λ (N : Netlist). N.wires) same-made ∙ omega (arith, D.wire, outs-many);
          inputs = ap (λ (N : Netlist). N.inputs) same-made ∙ ap (λ (i : ℕ). i ∷ []) many;
          outputs = ap (λ (N : Netlist). N.outputs) same-made ∙ ap (λ (o : ℕ). o ∷ []) outs-many;
          count = ap (λ (N : Netlist). length N.gates) same-made ∙ rw (← D.wire) gates-many;
          many = omega arith;
          keeps = rw (same-made, ← D.wire) keep;
        }

        -- gates that are more than a table has room for
        pub lines-large : {u : Tables} → true ≡ every (readable given₁) outs → length u.results < k + H.outputs
            → LinesAt H ls u (k + H.outputs)
        lines-large good h = lines-made good (λ a b. absurd (omega (arith, h, b, gates-many)))
