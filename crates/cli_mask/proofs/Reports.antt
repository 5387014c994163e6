-- From the bytes of the three files to what *mask* prints.
use Rattle.std.specs.Prelude.{Ok, Err, Result}
use Prim.Native.Nat.{ℕ, ◌≤◌}
use mathlib.Core.Path.{◌≡◌, refl, sym, ap, ap₂, ◌∙◌, subst}
use mathlib.Core.Bool.{Bool, true}
use mathlib.Core.List.{List, [], ◌∷◌, ◌++◌, append_assoc, append-nil}
use native.Mathlib.Omega.{arith}
use lib.ListN.{length, take}
use lib.Seq.{length-sets}
use borrow.Author.Tests.{le-leb}
use Rattle.netlist.specs.declared.Refusal.{Refusal}
use Rattle.netlist.specs.Refusal.{number_of}
use Rattle.netlist.specs.Text.{lf}
use Rattle.netlist.specs.declared.Sizes.TheVariants.{Standard}
use Rattle.netlist.specs.Netlist.{source_limits}
use Rattle.netlist.specs.Outcome.{Outcome, refused, done, ask, and_then}
use Rattle.netlist.specs.Read.{read_netlist}
use Rattle.masking.specs.Calls.{MaskedText, mask_outcome, mask_call}
use Rattle.netlist.specs.Services.{stands_for, tables_long, outcome_of as text_of}
use Rattle.program.specs.Programs.{list_file, print_list, print_mask, mask_program, file_limit}
use Rattle.netlist.proofs.Answering.{take-sets}
use Rattle.netlist.proofs.Tests.{clash}
use Rattle.netlist.proofs.Questions.{done-same}
use Rattle.masking.proofs.Masking.{output-codes-length}
use Rattle.mask_rule.proofs.Made.{made}
use Rattle.mask.specs.Whole.{MaskAnswers}
use Rattle.mask.specs.Promise.{call}
use Rattle.program.specs.Front.{Front}
use Rattle.program.proofs.Reporting.{readable-short, answered}
use Rattle.cli_mask.specs.declared.Printed.{Printed}
use Rattle.cli_mask.specs.Report.{outcome, outcome_of, Answered, Prints}

-- question 1 admits the program's tables, and question 14 all output codes and 60,000 bytes of text
pub record Roomy (t e o r w m : List ℕ) : Type 0 where
  pub text : length t ≡ file_limit
  pub out_codes : length e ≡ (source_limits Standard).wires
  pub operands : (source_limits Standard).table ≤ length o
  pub results : (source_limits Standard).table ≤ length r
  pub wires : (source_limits Standard).table ≤ length w
  pub marks : (source_limits Standard).table ≤ length m

-- ---- the answer

answered-as : {c d : Outcome MaskedText} {x y : List ℕ} {k : ℕ} {a : Result ℕ Refusal} → c ≡ d → Answered c x y k a
    → Answered d x y k a
answered-as p h = rw p at h

-- two refusals by one number
refused-same : (p q : ℕ) → ◌≡◌ {A = Outcome ℕ} (refused p) (refused q) → p ≡ q
refused-same p q e = cc

-- an answer that says the length of a result has one, and an answer that says a question is a refusal
ok_is : (a : Result ℕ Refusal) (n : ℕ) → stands_for (λ n. n) a ≡ done n → a ≡ Ok n
ok_is (Ok m) n e = ap {B = Result ℕ Refusal} Ok (done-same m n e)
ok_is (Err q) n e = clash (cc)

refused_is : (x y : List ℕ) (q : ℕ) (a : Result ℕ Refusal) → stands_for (λ n. n) a ≡ refused q → outcome_of x y a
    ≡ refused q
refused_is x y q (Ok m) e = clash (cc)
refused_is x y q (Err p) e = ap {B = Outcome MaskedText} refused (refused-same (number_of p) q e)

not-ok : (q n : ℕ) {a : Result ℕ Refusal} → stands_for (λ n. n) a ≡ refused q → a ≡ Ok n → ⊥
not-ok q n e d = let k : ◌≡◌ {A = Outcome ℕ} (done n) (refused q) = rw d at e in clash (cc)

answered-refused : (x y : List ℕ) (k q : ℕ) {a : Result ℕ Refusal} → stands_for (λ n. n) a ≡ refused q
    → Answered (refused q) x y k a
answered-refused x y k q {a} p = record {
  outcome = refused_is x (take k y) q a p;
  counted = λ n d. absurd (not-ok q n p d);
}

module _ (netlist codes wanted : List ℕ) {t e o r w m : List ℕ} (room : Roomy t e o r w m) where
  -- the tables and the buffers are long enough
  call-roomy : length netlist ≤ file_limit → call Standard netlist codes wanted t e o r w m
      ≡ outcome netlist codes wanted
  unfolding mask_call
  call-roomy h =
      let long : tables_long (source_limits Standard) (length o ∷ length r ∷ length m ∷ length w ∷ []) ≡ true
      = rw (
        le-leb (source_limits Standard).table (length o) room.operands,
        le-leb (source_limits Standard).table (length r) room.results,
        le-leb (source_limits Standard).table (length w) room.wires,
        le-leb (source_limits Standard).table (length m) room.marks,
      ) in
      ap (λ (b : Bool). ask 1 b (and_then (read_netlist (source_limits Standard) netlist)
      (mask_outcome codes wanted (length t) (length e)))) long
      ∙ ap₂ (λ (j k : ℕ). and_then (read_netlist (source_limits Standard) netlist) (mask_outcome codes wanted j k))
      room.text room.out_codes
      ∙ sym (readable-short netlist _ h)

  -- there are as many output codes as wanted ones
  masked-answered : {x y : List ℕ} {a : Result ℕ Refusal} (c : Outcome MaskedText) → call Standard netlist codes wanted
      t e o r w m ≡ c → MaskAnswers c t x e y a
      → Answered c x y (length wanted) a
  masked-answered {x} {y} (refused q) p h = answered-refused x y (length wanted) q h.text.answer
  masked-answered {x} {y} {a} (done R) p h =
      let M = made Standard (length o ∷ length r ∷ length m ∷ length w ∷ []) netlist codes wanted (length t) (length e)
      R p in
      let same = ap (λ (Q : MaskedText). length Q.codes) M.same in
      let many : length R.codes ≡ length wanted = sym same ∙ output-codes-length M.inputs ∙ sym M.inputs.wanted_length
      in
      let fits : length R.codes ≤ length e = omega (arith, M.room, same) in
      let is = ok_is a (length R.text) h.text.answer in
      let text : take (length R.text) x ≡ R.text = done-same _ _ (ap (text_of x) (sym is) ∙ h.text.outcome) in
      let out_codes : take (length wanted) y ≡ R.codes = ap₂ take (sym many) h.codes ∙ take-sets R.codes e fits in
      record {
        outcome = ap (outcome_of x (take (length wanted) y)) is
            ∙ ap₂ (λ (u v : List ℕ). done (record { text = u; codes = v })) text out_codes;
        counted = λ n d. ((answered h.text).counted n d, omega (arith, ap length h.codes ∙ length-sets e 0 R.codes));
      }

  pub answer-short : {x y : List ℕ} {a : Result ℕ Refusal} → length netlist ≤ file_limit
      → MaskAnswers (call Standard netlist codes wanted t e o r w m) t x e y a
      → Answered (outcome netlist codes wanted) x y (length wanted) a
  answer-short h k = answered-as (call-roomy h) (masked-answered _ refl k)

-- ---- what it prints

pub prints-as : {a : Result ℕ Refusal} {l x : List ℕ} {p : Printed} (text codes : List ℕ) (b : Result ℕ Refusal) → a ≡ b
    → Prints l x p (print_mask (outcome_of text codes b))
    → Prints l x p (print_mask (outcome_of text codes a))
prints-as text codes b e f = rw e f

-- the line of the codes, and then the text
pub prints-text : {l : List ℕ} {r : ℕ} (codes text : List ℕ) (n : ℕ) → Front l r (print_list codes ++ (lf ∷ []))
    → n ≤ length text
    → Prints l text (record { line = r; text = n }) (print_list codes ++ lf ∷ take n text)
prints-text codes text n f h = record {
  line = f.within;
  text = h;
  same = ap (λ (u : List ℕ). u ++ take n text) f.same ∙ append_assoc (print_list codes) (lf ∷ []) (take n text);
}

-- a refusal's line alone
pub prints-line : {l u : List ℕ} {r : ℕ} (text : List ℕ) → Front l r u → Prints l text (record { line = r; text = 0 }) u
prints-line {u = u} text f = record { line = f.within; text = omega arith; same = append-nil _ ∙ f.same }

-- the outcome printed
pub reports : (netlist inputs outputs : List ℕ) {codes wanted l x : List ℕ} {o : Outcome MaskedText} {p : Printed}
    → codes ≡ list_file inputs → wanted ≡ list_file outputs
    → o ≡ outcome netlist codes wanted → Prints l x p (print_mask o)
    → Prints l x p (mask_program netlist inputs outputs)
unfolding mask_program
reports netlist inputs outputs {l = l} {x = x} {p = p} c w e f =
    subst (λ (o : Outcome MaskedText). Prints l x p (print_mask o))
    (e ∙ ap₂ (λ (u v : List ℕ). outcome netlist u v) c w) f
