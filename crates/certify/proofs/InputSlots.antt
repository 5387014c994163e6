-- The first records and the marks of the input wires.
use mathlib.Core.Path.{◌≡◌, refl, sym, ap, ◌∙◌}
use mathlib.Core.Bool.{Bool, true, false, cond, not}
use mathlib.Core.List.{List}
use mathlib.Core.Logic.{◌≢◌}
use Prim.Native.Nat.{ℕ, zero, suc, ◌+◌, ◌*◌, ◌≤◌, ◌<◌}
use native.Mathlib.Omega.{arith}
use lib.Bits.{bit_xor}
use lib.Dec.{T, eqb}
use lib.ListN.{length, get_or, set, length-set}
use lib.Seq.{get_or-set_same}
use borrow.Author.Tests.{eqb-true, eqb-false, lt-leb, ne_eqb}
use Rattle.std.specs.Prelude.{Some, None}
use Rattle.netlist.specs.Lists.{every}
use Rattle.masking.specs.Mask.{is_code, is_input_code}
use Rattle.netlist.proofs.Tests.{on_bool, every-at}
use Rattle.masking.proofs.CodeLaws.{on_code, wanted-code}
use Rattle.evaluate.specs.Lane.{lane}
use Rattle.certify_records.specs.declared.Record.{Record}
use Rattle.certify_records.specs.Record.{no_atom, over}
use Rattle.certify_records.specs.Made.{even_of}
use Rattle.certify_records.proofs.Drawn.{leaf_table}
use Rattle.certify.proofs.Slots.{put-here}
use Rattle.certify.specs.Step.{State, state, shown_clean, mask_word, input_record, mask_record, given, given_if, opened}
use Rattle.certify.specs.Step.{input_of, inputs_to, inputs_of}
use Rattle.certify.proofs.Frames.{slot, Lit, View, Framed, framed-same, framed-more, framed-where, framed-put, lit-set}
use Rattle.certify.proofs.Frames.{grown-clean}
use Rattle.certify.proofs.Leads.{lit-clean, over-sized}
use Rattle.certify.proofs.Seats.{Fitting}
use Rattle.certify.proofs.Bears.{Bears}

-- the record of an input bit over its own atom
abbrev pub arrived : ℕ → ℕ → Record
arrived i code = over (bit_xor (mask_word code) 0xf0f0_f0f0_f0f0_f0f0) (8 * i)

even-arrived : (e : ℕ) → T (is_code e) → (a : ℕ) → even_of (over (bit_xor (mask_word e) 0xf0f0_f0f0_f0f0_f0f0) a) false
    false false false ≡ true
unfolding even_of
even-arrived e c a =
    on_code (λ e. even_of (over (bit_xor (mask_word e) 0xf0f0_f0f0_f0f0_f0f0) a) false false false false ≡ true) refl
    refl refl e c

even-mask : (e : ℕ) → T (is_code e) → even_of (mask_record e) false false false false ≡ true
unfolding even_of
even-mask e c = on_code (λ e. even_of (mask_record e) false false false false ≡ true) refl refl refl e c

-- its table is that of a masked bit
arrived-leaf : (e : ℕ) → T (is_code e) → bit_xor (mask_word e) 0xf0f0_f0f0_f0f0_f0f0 ≡ leaf_table e false true
arrived-leaf e c = on_code (λ e. bit_xor (mask_word e) 0xf0f0_f0f0_f0f0_f0f0 ≡ leaf_table e false true) refl refl refl e
    c

pub mask-leaf : (e : ℕ) → T (is_code e) → mask_record e ≡ over (leaf_table e false false) no_atom
mask-leaf e c = on_code (λ e. mask_record e ≡ over (leaf_table e false false) no_atom) refl refl refl e c

pub arrived-bears : {v : View} (e i : ℕ) → T (is_code e) → i < 268435456 → v.slot_of i ≡ Some (arrived i e)
    → Bears v e i
arrived-bears e i c h p =
    let n : not (eqb (8 * i) no_atom) ≡ true = ap not (ne_eqb (8 * i) no_atom (λ q. omega arith)) in
    record {
      record_there = arrived i e;
      leaf = record {
        turned = false;
        atom = 8 * i;
        most = omega arith;
        is = λ k. over ((arrived-leaf e c ∙ ap (leaf_table e false) (sym n)) k) (8 * i);
      };
      stands = p;
    }

-- a wire that is given its record
pub record Given (s u : State) (w : ℕ) (r : Record) : Type 0 where
  pub framed : Framed (λ v. v ≢ w) s u
  pub stands : slot u w ≡ Some r

given-stands : (s : State) (w u a : ℕ) → a ≤ no_atom → 15 * w + 15 ≤ length s.records → Given s (given s w (over u a)) w
    (over u a)
given-stands s w u a h room = record {
  framed = framed-put w s (over u a) (shown_clean s.marks w (over u a)) s.hints (grown-clean s.marks w (over u a));
  stands = put-here s.records (5 * w) (over u a) (omega arith) (over-sized u a h);
}

framed-opened : (s : State) (i code : ℕ) → Framed (λ v. Unit) s (opened s i code)
framed-opened s i code = on (eqb code 0)
  where
    on : (b : Bool) → Framed (λ v. Unit) s (cond b (state s.records (set s.marks i 3) s.hints) s)
    on true = record {
      records = refl;
      marks = length-set s.marks i 3;
      slots = λ v p. refl;
      lit
          = lit-set s.marks i 3 refl;
    }
    on false = framed-same s

-- input wire i under its code
pub record Input (s u : State) (i code : ℕ) : Type 0 where
  pub framed : Framed (λ v. v ≢ i) s u
  pub stands : slot u i ≡ Some (arrived i code)
  pub lit : Lit u.marks i

input-stands : (s : State) (i code : ℕ) → i < 268435456 → i < length s.marks → 15 * i + 15 ≤ length s.records
    → T (is_input_code code)
    → Input s (input_of s i code) i code
input-stands s i code few inside room c =
    let e : input_record i code ≡ Some (arrived i code) = ap (λ (b : Bool). cond b None (Some (arrived i code)))
    (lt-leb 268435456 i few) in
    let u = given s i (arrived i code) in
    let g = given-stands s i (bit_xor (mask_word code) 0xf0f0_f0f0_f0f0_f0f0) (8 * i) (omega arith) room in
    let o = framed-opened u i code in
    let at : Input s (opened u i code) i code = record {
      framed = framed-more g.framed (framed-where (λ v n. tt) o);
      stands = o.slots i tt ∙ g.stands;
      lit = on_bool (eqb code 0)
          (λ z. let m = g.framed.marks in
          ap (λ (b : Bool). lane 0 (get_or (cond b (state u.records (set u.marks i 3) u.hints) u).marks i 0)) z
          ∙ ap (lane 0) (get_or-set_same u.marks i 3 0 (omega arith)))
          (λ z. o.lit i (lit-clean s.marks i (arrived i code) inside
          (even-arrived code (wanted-code code c z) (8 * i))));
    } in
    rw (ap (given_if s i) e) at

-- the first input wires
pub record Arrived (W : ℕ) (codes : List ℕ) (i : ℕ) (s : State) : Type 0 where
  pub fitting : Fitting W s
  pub stands : (k : ℕ) → k < i → slot s k ≡ Some (arrived k (get_or codes k 0))
  pub lit : (k : ℕ) → k < i → Lit s.marks k

fitting-framed : {W : ℕ} {P : ℕ → Type 0} {s u : State} → Framed P s u → Fitting W s → Fitting W u
fitting-framed F t = record { marks = F.marks ∙ t.marks; records = F.records ∙ t.records }

pub inputs-arrive : (W : ℕ) (codes : List ℕ) (s : State) → Fitting W s → W ≤ 268435456 → length codes ≤ W
    → T (every is_input_code codes)
    → (i : ℕ) → i ≤ length codes → Arrived W codes i (inputs_to codes i s)
inputs-arrive W codes s t few l g zero h = record {
  fitting = t;
  stands = λ k b. absurd (omega arith);
  lit
      = λ k b. absurd (omega arith);
}
inputs-arrive W codes s t few l g (suc i) h =
    let A = inputs-arrive W codes s t few l g i (omega arith) in
    let u = inputs_to codes i s in
    let c = get_or codes i 0 in
    let marks : length u.marks ≡ W = A.fitting.marks in
    let records : length u.records ≡ 15 * W = A.fitting.records in
    let n = input-stands u i c (omega arith) (omega arith) (omega arith)
    (every-at is_input_code codes g i (omega arith)) in
    record {
      fitting = fitting-framed n.framed A.fitting;
      stands = λ k b. on_bool (eqb k i)
          (λ e. rw (eqb-true k i e) n.stands)
          (λ e. let ne = eqb-false k i e in n.framed.slots k ne ∙ A.stands k (omega arith));
      lit = λ k b. on_bool (eqb k i)
          (λ e. rw (eqb-true k i e) n.lit)
          (λ e. let ne = eqb-false k i e in n.framed.lit k (A.lit k (omega arith)));
    }

-- all input wires
pub record AllArrived (W : ℕ) (codes : List ℕ) (s : State) : Type 0 where
  pub fitting : Fitting W s
  pub stands : (k : ℕ) → k < length codes → slot s k ≡ Some (arrived k (get_or codes k 0))
  pub first : slot s (length codes) ≡ Some (mask_record 1)
  pub second : slot s (length codes + 1) ≡ Some (mask_record 2)
  pub lit : (k : ℕ) → k < length codes + 2 → Lit s.marks k

pub all-arrive : (W : ℕ) (codes : List ℕ) (s : State) → Fitting W s → W ≤ 268435456 → length codes + 2 ≤ W
    → T (every is_input_code codes)
    → AllArrived W codes (inputs_of codes s)
all-arrive W codes s t few l g =
    let n = length codes in
    let u = inputs_to codes n s in
    let A = inputs-arrive W codes s t few (omega arith) g n (omega arith) in
    let v = given u n (mask_record 1) in
    let marks : length u.marks ≡ W = A.fitting.marks in
    let records : length u.records ≡ 15 * W = A.fitting.records in
    let a = given-stands u n (mask_word 1) no_atom (omega arith) (omega arith) in
    let vm = a.framed.marks in
    let vr = a.framed.records in
    let b = given-stands v (n + 1) (mask_word 2) no_atom (omega arith) (omega arith) in
    let f : Lit (given u n (mask_record 1)).marks n = lit-clean u.marks n (mask_record 1) (omega arith) (even-mask 1 tt)
    in
    let h : Lit (given v (n + 1) (mask_record 2)).marks (n + 1) = lit-clean v.marks (n + 1) (mask_record 2)
    (omega arith) (even-mask 2 tt) in
    record {
      fitting = fitting-framed b.framed (fitting-framed a.framed A.fitting);
      stands = λ k q. b.framed.slots k (λ e. omega arith) ∙ a.framed.slots k (λ e. omega arith) ∙ A.stands k q;
      first = b.framed.slots n (λ e. omega arith) ∙ a.stands;
      second = b.stands;
      lit = λ k q. on_bool (eqb k (n + 1))
          (λ e. rw (eqb-true k (n + 1) e) h)
          (λ e. let ne = eqb-false k (n + 1) e in
          b.framed.lit k (on_bool (eqb k n)
          (λ e. rw (eqb-true k n e) f)
          (λ e. let nf = eqb-false k n e in a.framed.lit k (A.lit k (omega arith)))));
    }
