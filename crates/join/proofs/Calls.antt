-- A call that is accepted: what its questions made sure of, and what the joined text is.
use Prim.Native.Nat.{ℕ, zero, suc, ◌-◌, ◌≤◌}
use mathlib.Core.Path.{◌≡◌, refl, sym, ap, ◌∙◌, subst}
use mathlib.Core.Bool.{Bool, ◌&&◌}
use mathlib.Core.List.{List, [], ◌∷◌}
use native.Mathlib.Omega.{arith}
use lib.Dec.{T, eqb, leb, leb→le, le→leb, eqb→eq}
use borrow.Author.Tests.{eq-eqb}
use lib.ListN.{length, get_or}
use Rattle.netlist.specs.declared.Limits.{Limits}
use Rattle.netlist.specs.Lists.{every, sum, same_bytes}
use Rattle.netlist.specs.Netlist.{Netlist, input_bits, output_bits}
use Rattle.netlist.specs.Outcome.{Outcome, done, ask, and_then}
use Rattle.netlist.specs.Read.{read_netlist, Within}
use Rattle.netlist.specs.Write.{write_netlist}
use Rattle.masking.specs.Mask.{is_input_code}
use Rattle.netlist.specs.Services.{tables_long, list_good, holds}
use Rattle.masking.specs.Calls.{ends_in_masks}
use Rattle.netlist.proofs.Tests.{is_true, true-T, both, pair, same-equal}
use Rattle.netlist.proofs.Questions.{done-same, ask-done, and_then-done}
use Rattle.netlist.proofs.Accepted.{accepted}
use Rattle.netlist.proofs.Size.{Roomy, reads-back}
use Rattle.join.specs.Join.{join}
use Rattle.join.specs.Call.{block_outcome, read_block, is_secret, seam_good, join_outcome, join_call}
use Rattle.join.proofs.SeamLaws.{Seam}
use Rattle.join.proofs.Formed.{joined-formed}

-- ---- questions 10, 11 and 25

ask-yes : {A : Type 0} (q : ℕ) (b : Bool) (r : Outcome A) → T b → ask q b r ≡ r
ask-yes q b r t = rw (is_true b t) refl

at-most-sum : (xs : List ℕ) (i : ℕ) → get_or xs i 0 ≤ sum xs
at-most-sum [] i = omega arith
at-most-sum (x ∷ xs) zero = omega arith
at-most-sum (x ∷ xs) (suc i) = let h = at-most-sum xs i in omega arith

-- what 2 to 11 say of a text with its input codes
pub record Admitted (L : Limits) (text codes : List ℕ) (N : Netlist) : Type 0 where
  pub read : read_netlist L text ≡ done N
  pub masks : T (ends_in_masks N.inputs)
  pub list : T (list_good is_input_code (input_bits N - 2) codes)

pub admitted : (L : Limits) (text codes : List ℕ) (N : Netlist) → read_block L text codes ≡ done N
    → Admitted L text codes N
admitted L text codes N e =
    let k = and_then-done (read_netlist L text) (block_outcome codes) N e in
    let K = k.0 in
    let k₁₀ = ask-done 10 (ends_in_masks K.inputs) (ask 11 (list_good is_input_code (input_bits K - 2) codes) (done K))
    N k.2 in
    let k₁₁ = ask-done 11 (list_good is_input_code (input_bits K - 2) codes) (done K) N k₁₀.1 in
    subst (Admitted L text codes) (done-same K N k₁₁.1) (record { read = k.1; masks = k₁₀.0; list = k₁₁.0 })

pub read-block : {L : Limits} {text codes : List ℕ} {N : Netlist} → Admitted L text codes N → read_block L text codes
    ≡ done N
read-block {L} {text} {codes} {N} H =
    ap (λ (o : Outcome Netlist). and_then o (block_outcome codes)) H.read
    ∙ ask-yes 10 (ends_in_masks N.inputs) _ H.masks
    ∙ ask-yes 11 (list_good is_input_code (input_bits N - 2) codes) _ H.list

-- the mask pair is two of the input bits
pub has-pair : (N : Netlist) → T (ends_in_masks N.inputs) → 2 ≤ input_bits N
has-pair N t =
    let last = length N.inputs - 1 in
    let e = eqb→eq (get_or N.inputs last 0) 2 (both (leb 2 (length N.inputs)) (eqb (get_or N.inputs last 0) 2) t).1 in
    omega (arith, at-most-sum N.inputs last)

-- what 25 says
pub record Joins (A : Netlist) (out_codes : List ℕ) (B : Netlist) (codes : List ℕ) : Type 0 where
  pub count : length out_codes ≡ output_bits A
  pub same : T (same_bytes out_codes codes)
  pub secret : T (every is_secret codes)
  pub gates : output_bits B ≤ length B.gates

module _ (A : Netlist) (out_codes : List ℕ) (B : Netlist) (codes : List ℕ) where
  abbrev a : Bool
  a = eqb (length out_codes) (output_bits A)

  abbrev b : Bool
  b = same_bytes out_codes codes

  abbrev c : Bool
  c = every is_secret codes

  abbrev d : Bool
  d = leb (output_bits B) (length B.gates)

  pub joins : T (seam_good A out_codes B codes) → Joins A out_codes B codes
  joins t =
      let p = both (a && b && c) d t in
      let q = both (a && b) c p.0 in
      let r = both a b q.0 in
      record { count = eqb→eq _ _ r.0; same = r.1; secret = q.1; gates = leb→le _ _ p.1 }

  pub seam-good : Joins A out_codes B codes → T (seam_good A out_codes B codes)
  seam-good J =
      pair (a && b && c) d (pair (a && b) c (pair a b (true-T a (eq-eqb (length out_codes) (output_bits A) J.count))
      J.same) J.secret) (le→leb _ _ J.gates)

-- ---- a call

module _ (L : Limits) (tables first first_codes first_out_codes second second_codes : List ℕ) (room : ℕ) where
  -- what a call that gives out was handed, and what out is
  pub record Joined (out : List ℕ) : Type 0 where
    pub long : T (tables_long L tables)
    pub A : Netlist
    pub one : Admitted L first first_codes A
    pub B : Netlist
    pub two : Admitted L second second_codes B
    pub seam : Joins A first_out_codes B second_codes
    pub wires : (join A B).wires ≤ L.wires
    pub text : out ≡ write_netlist (join A B)
    pub fits : length out ≤ room

  abbrev rest : Netlist → Netlist → Outcome (List ℕ)
  rest A B = join_outcome L first_out_codes second_codes room A B

  pub joined : (out : List ℕ) → join_call L tables first first_codes first_out_codes second second_codes room ≡ done out
      → Joined out
  unfolding join_call
  joined out e =
      let k₁ = ask-done 1 (tables_long L tables) (and_then (read_block L first first_codes) λ A. and_then
      (read_block L second second_codes) (rest A)) out e in
      let k = and_then-done (read_block L first first_codes) (λ A. and_then (read_block L second second_codes) (rest A))
      out k₁.1 in
      let A = k.0 in
      let l = and_then-done (read_block L second second_codes) (rest A) out k.2 in
      let B = l.0 in
      let text = write_netlist (join A B) in
      let k₂₅ = ask-done 25 (seam_good A first_out_codes B second_codes)
      (ask 5 (leb (join A B).wires L.wires) (ask 14 (holds room text) (done text))) out l.2 in
      let k₅ = ask-done 5 (leb (join A B).wires L.wires) (ask 14 (holds room text) (done text)) out k₂₅.1 in
      let k₁₄ = ask-done 14 (holds room text) (done text) out k₅.1 in
      let same : text ≡ out = done-same text out k₁₄.1 in
      let short : length text ≤ room = leb→le _ _ k₁₄.0 in
      record {
        long = k₁.0;
        A = A;
        one = admitted L first first_codes A k.1;
        B = B;
        two = admitted L second second_codes B l.1;
        seam = joins A first_out_codes B second_codes k₂₅.0;
        wires = leb→le _ _ k₅.0;
        text = sym same;
        fits = rw same at short;
      }

  pub call-done : (out : List ℕ) → Joined out → join_call L tables first first_codes first_out_codes second second_codes
      room ≡ done out
  unfolding join_call
  call-done out J =
      let A = J.A in
      let B = J.B in
      let text = write_netlist (join A B) in
      let short : length text ≤ room = rw J.text at J.fits in
      ask-yes 1 (tables_long L tables) _ J.long
      ∙ ap (λ (o : Outcome Netlist). and_then o λ A. and_then (read_block L second second_codes) (rest A))
      (read-block J.one)
      ∙ ap (λ (o : Outcome Netlist). and_then o (rest A)) (read-block J.two)
      ∙ ask-yes 25 (seam_good A first_out_codes B second_codes) _ (seam-good A first_out_codes B second_codes J.seam)
      ∙ ask-yes 5 (leb (join A B).wires L.wires) _ (le→leb _ _ J.wires)
      ∙ ask-yes 14 (holds room text) _ (le→leb _ _ short)
      ∙ ap done (sym J.text)

  -- the seam of an accepted call
  pub call-seam : {out : List ℕ} (J : Joined out) → Seam J.A J.B
  call-seam J =
      let A = J.A in
      let B = J.B in
      let n : 2 ≤ input_bits B = has-pair B J.two.masks in
      let e : length first_out_codes ≡ output_bits A = J.seam.count in
      let s : length first_out_codes ≡ length second_codes = ap length (same-equal first_out_codes second_codes
      (is_true (same_bytes first_out_codes second_codes) J.seam.same)) in
      let l : length second_codes ≡ input_bits B - 2
      = eqb→eq _ _ (both (eqb (length second_codes) (input_bits B - 2)) (every is_input_code second_codes) J.two.list).0
      in
      record {
        first = (accepted L first A J.one.read).formed;
        second = (accepted L second B J.two.read).formed;
        pair = has-pair A J.one.masks;
        meets = omega arith;
        gates = J.seam.gates;
      }

  -- the joined text reads back as the joined netlist
  pub joined-reads : Roomy L → {out : List ℕ} (J : Joined out) → read_netlist L out ≡ done (join J.A J.B)
  joined-reads R J =
      let w : Within L (join J.A J.B) = record {
        wires = J.wires;
        inputs = (accepted L first J.A J.one.read).within.inputs;
        outputs = (accepted L second J.B J.two.read).within.outputs;
      } in
      ap (read_netlist L) J.text ∙ reads-back R (join J.A J.B) (joined-formed (call-seam J)) w
