-- The lines of a file, taken one after another.
use Prim.Native.Nat.{ℕ, zero, suc, ◌+◌}
use mathlib.Core.Path.{◌≡◌, refl, sym, ap, ◌∙◌}
use mathlib.Core.List.{List, [], ◌∷◌}
use mathlib.Core.Option.{Option, none, some}
use lib.ListN.{length, drop}
use Rattle.netlist.proofs.Questions.{none-some, some_same}
use Rattle.aiger.specs.File.{File}
use Rattle.aiger.specs.Lines.{if_some, Head, output_line, and_form, formed, input_line, file}

-- ---- a value taken apart

pub if_some-some : {A B : Type 0} (o : Option A) (f : A → Option B) (b : B) → if_some o f ≡ some b → (a : A)
    × (o ≡ some a) × (f a ≡ some b)
if_some-some none f b e = absurd (none-some b e)
if_some-some (some a) f b e = (a, refl, e)

-- ---- the lines

module _ {A : Type 0} (f : List (List ℕ) → Option A) where
  pub formed-length : (k : ℕ) (ls : List (List (List ℕ))) (xs : List A) → formed f k ls ≡ some xs → length xs ≡ k
  formed-length zero ls xs e = ap length (sym (some_same [] xs e))
  formed-length (suc k) [] xs e = absurd (none-some xs e)
  formed-length (suc k) (l ∷ ls) xs e =
      let p = if_some-some (f l) _ xs e in
      let q = if_some-some (formed f k ls) _ xs p.2 in
      ap length (sym (some_same (p.0 ∷ q.0) xs q.2)) ∙ ap suc (formed-length k ls q.0 q.1)

-- what the lines of a file are
pub record Formed (H : Head) (ls : List (List (List ℕ))) (F : File) : Type 0 where
  pub most : F.most ≡ H.most
  pub inputs : formed input_line H.inputs ls ≡ some F.inputs
  pub outputs : formed output_line H.outputs (drop H.inputs ls) ≡ some F.outputs
  pub ands : formed and_form H.ands (drop (H.inputs + H.outputs) ls) ≡ some F.ands

pub file-formed : (H : Head) (ls : List (List (List ℕ))) (F : File) → file H ls ≡ some F → Formed H ls F
file-formed H ls F e =
    let p = if_some-some (formed input_line H.inputs ls) _ F e in
    let q = if_some-some (formed output_line H.outputs (drop H.inputs ls)) _ F p.2 in
    let r = if_some-some (formed and_form H.ands (drop (H.inputs + H.outputs) ls)) _ F q.2 in
    let G : File = record { most = H.most; inputs = p.0; outputs = q.0; ands = r.0 } in
    let s : G ≡ F = some_same G F r.2 in
    record {
      most = ap (λ (F : File). F.most) (sym s);
      inputs = p.1 ∙ ap (λ (F : File). some F.inputs) s;
      outputs = q.1 ∙ ap (λ (F : File). some F.outputs) s;
      ands = r.1 ∙ ap (λ (F : File). some F.ands) s;
    }

pub formed-file : (H : Head) (ls : List (List (List ℕ))) (F : File) → Formed H ls F → file H ls ≡ some F
formed-file H ls F f = rw (f.inputs, f.outputs, f.ands, ← f.most) refl
