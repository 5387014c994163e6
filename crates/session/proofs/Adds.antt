-- What adding asks and writes, over numbers, is what it asks and writes of the lists.
use Prim.Native.Nat.{ℕ, zero, suc, ◌+◌, ◌-◌, ◌≤◌, ◌<◌}
use mathlib.Core.Path.{◌≡◌, refl, sym, ap, ap₂, ◌∙◌}
use mathlib.Core.Bool.{Bool, true, false, ◌&&◌}
use mathlib.Core.List.{List, [], ◌∷◌, ◌++◌, map}
use mathlib.Core.Option.{Option, none, some}
use native.Mathlib.Omega.{arith}
use Rattle.std.specs.Prelude.{Err, Ok, count_by}
use lib.Dec.{T, eqb, leb, ltb, eqb→eq, ltb→lt}
use lib.ListN.{length, get_or, take, get_or-append, get_or-map}
use lib.Seq.{get_or-append-add}
use borrow.Author.Tests.{ne_eqb, eq-eqb, le-leb, lt-leb}
use Rattle.netlist.specs.declared.Gate.{Gate}
use Rattle.netlist.specs.declared.Gate.TheVariants.{Xor, And, Inv, Eqw, Eq}
use Rattle.netlist.specs.declared.Refusal.{Refusal}
use Rattle.netlist.specs.declared.Refusal.TheVariants as Q
use Rattle.netlist.specs.declared.Sizes.{Sizes}
use Rattle.netlist.specs.declared.Twin.{Twin}
use Rattle.netlist.specs.Refusal.{number_of}
use Rattle.netlist.specs.Netlist.{source_limits, result}
use Rattle.netlist.specs.Outcome.{Outcome, refused, done, ask, and_then, given}
use Rattle.netlist.specs.Read.{operands_given}
use Rattle.masking.specs.Mask.{State, no_twin, twin, is_public, input_twin, input_twins, past_public, past_publics}
use Rattle.masking.specs.Mask.{emit, result_twin}
use Rattle.netlist.proofs.Tests.{on_bool, both, true-T, clash}
use Rattle.netlist.proofs.Questions.{ask-done, and_then-done, given-done}
use Rattle.masking.proofs.GateCount.{next-emit, next-most}
use Rattle.masking.proofs.PublicGates.{length-input_twins}
use Rattle.gates.specs.declared.records.GateRecord.{GateRecord}
use Rattle.gates.specs.declared.records.SourceRecord.{SourceRecord}
use Rattle.gates.specs.Records.{record_of, gate_of, gate_as, single, record4, source_record, blank_source, twin_in}
use Rattle.gates.specs.declared.Kind.{Kind}
use Rattle.gates.specs.declared.Kind.TheVariants as kind
use Rattle.gates.specs.Kind.{gate_for}
use Rattle.mask_rule.specs.declared.codes.Next.{Next}
use Rattle.mask_rule.specs.Rule.{operands, steps_of, twin_of, Many}
use Rattle.session.specs.declared.Session.{Session}
use Rattle.session.specs.Asked.{gate_good, place_left}
use Rattle.session.specs.Lists.{Lists, lists_of, session_of, present, steps, room_for, most_masked, asked}
use Rattle.session.specs.Plan.{first_asked, most_bits, PlanIs}
use Rattle.session.proofs.Openings.{few as few-wires, past-count}

-- the six cases of a record's kind
kinds : {P : Type 0} (r : GateRecord) → (r.kind ≡ 1 → P) → (r.kind ≡ 2 → P) → (r.kind ≡ 3 → P) → (r.kind ≡ 4 → P)
    → (r.kind ≡ 5 → P) → (gate_of r ≡ none → P) → P
kinds r a b c d e f =
    on_bool (eqb r.kind 1) (λ t. a (is 1 t)) (λ t₁.
    on_bool (eqb r.kind 2) (λ t. b (is 2 t)) (λ t₂.
    on_bool (eqb r.kind 3) (λ t. c (is 3 t)) (λ t₃.
    on_bool (eqb r.kind 4) (λ t. d (is 4 t)) (λ t₄.
    on_bool (eqb r.kind 5) (λ t. e (is 5 t)) (λ t₅. f (rw (t₁, t₂, t₃, t₄, t₅)))))))
  where
    is : (j : ℕ) → eqb r.kind j ≡ true → r.kind ≡ j
    is j t = eqb→eq r.kind j (true-T (eqb r.kind j) t)

single-named : (b : ℕ) (g h : Gate) → single b g ≡ some h → (g ≡ h) × (b ≡ 0)
single-named b g h k = on_bool (eqb b 0) (λ t. let j : some g ≡ some h = rw t at k in
    (cc, eqb→eq b 0 (true-T (eqb b 0) t))) (λ t. let j : none ≡ some h = rw t at k in clash (cc))

record_is : (r : GateRecord) {k b : ℕ} → k ≡ r.kind → b ≡ r.second → record4 k r.first b r.result ≡ r
record_is r e f = rw (e, f)

never : {P : Type 0} (g : Gate) → none ≡ some g → P
never g e = clash (cc)

-- the twin of an input, by the codes in front of it
input-at : (c k : ℕ) (es : List ℕ) (w : ℕ) → w < length es → get_or (input_twins c k es) w no_twin
    ≡ input_twin (past_publics c (take w es)) (k + w) (get_or es w 0)
input-at c k [] w h = absurd (omega (arith, h))
input-at c k (e ∷ es) zero h = let z : k + 0 ≡ k = omega arith in rw z refl
input-at c k (e ∷ es) (suc w) h = let z : k + suc w ≡ k + 1 + w = omega arith
    in rw z (input-at (past_public c e) (k + 1) es w (omega (arith, h)))

-- the twins of the source wires, as the lists have them
module _ (codes : List ℕ) (source : List SourceRecord) (w : ℕ) where
  abbrev n : ℕ
  n = length codes

  abbrev ins : List Twin
  ins = input_twins (n + 5) 0 codes

  abbrev found : Twin
  found = get_or (ins ++ map twin_in source) w no_twin

  input-is : w < n → found ≡ input_twin (n + 5 + count_by is_public (take w codes)) w (get_or codes w 0)
  input-is l =
      get_or-append ins (map twin_in source) no_twin w (omega (arith, length-input_twins (n + 5) 0 codes, l))
      ∙ input-at (n + 5) 0 codes w l
      ∙ ap₂ (λ (c k : ℕ). input_twin c k (get_or codes w 0)) (past-count (n + 5) (take w codes)) (omega arith)

  pub twin-secret : w < n → (get_or codes w 0 ≡ 0 → ⊥) → record { wire = w; code = get_or codes w 0 } ≡ found
  twin-secret l d = sym (input-is l ∙ rw (ne_eqb (get_or codes w 0) 0 d))

  pub twin-public : w < n → get_or codes w 0 ≡ 0 → record { wire = n + 5 + count_by is_public (take w codes); code = 1 }
      ≡ found
  twin-public l d = sym (input-is l ∙ rw (eq-eqb (get_or codes w 0) 0 d))

  record-is : n ≤ w → found ≡ get_or (map twin_in source) (w - n) no_twin
  record-is l =
      let z : length ins + (w - n) ≡ w = omega (arith, l, length-input_twins (n + 5) 0 codes) in
      ap (λ (i : ℕ). get_or (ins ++ map twin_in source) i no_twin) (sym z) ∙ get_or-append-add ins (map twin_in source)
      (w - n) no_twin

  pub twin-record : n ≤ w → twin_in (get_or source (w - n) blank_source) ≡ found
  twin-record l = sym (record-is l ∙ get_or-map twin_in source (w - n) blank_source)

-- the record of a record's gate is that record
record-of : (r : GateRecord) (g : Gate) → gate_of r ≡ some g → record_of g ≡ r
record-of r g is = kinds r
    (λ e. let i : Xor r.first r.second r.result ≡ g = some-same (sym (rw e refl) ∙ is)
    in rw (← i) (record_is r (sym e) refl))
    (λ e. let i : And r.first r.second r.result ≡ g = some-same (sym (rw e refl) ∙ is)
    in rw (← i) (record_is r (sym e) refl))
    (λ e. single-is (Inv r.first r.result) e (rw e refl) refl)
    (λ e. single-is (Eqw r.first r.result) e (rw e refl) refl)
    (λ e. single-is (Eq r.first r.result) e (rw e refl) refl)
    (λ e. never g (sym e ∙ is))
  where
    some-same : {h : Gate} → ◌≡◌ {A = Option Gate} (some h) (some g) → h ≡ g
    some-same e = cc

    single-is : (h : Gate) {k : ℕ} → r.kind ≡ k → gate_of r ≡ single r.second h → record_of h
        ≡ record4 k r.first 0 r.result → record_of g ≡ r
    single-is h e f i =
        let q = single-named r.second h g (sym f ∙ is) in
        rw (← q.0) (i ∙ record_is r (sym e) (sym q.1))

module _ (n : ℕ) (P : State) (a b c : ℕ) where
  steps-by : (k : Kind) → emit n P (gate_for k a b c) ≡ steps_of n P.next k (twin P a) (twin P b)
  steps-by kind.Xor = refl
  steps-by kind.And = refl
  steps-by kind.Inv = refl
  steps-by kind.Eqw = refl
  steps-by (kind.Eq v) = refl

  twin-by : (k : Kind) → result_twin P (gate_for k a b c) ≡ twin_of P.next k (twin P a) (twin P b)
  twin-by kind.Xor = refl
  twin-by kind.And = refl
  twin-by kind.Inv = refl
  twin-by kind.Eqw = refl
  twin-by (kind.Eq v) = refl

-- a source gate has at most eight masked gates
pub many-most : (k : Kind) (A B : Twin) {m : ℕ} → Many k A B m → m ≤ 8
many-most k A B h = omega (
  arith,
  h 0 0,
  next-emit 0 (operands 0 A B) (gate_for k 0 1 2),
  next-most (operands 0 A B)
      (gate_for k 0 1 2 ∷ []),
)

-- the plan, by the numbers that the code has
module _ (z : Sizes) (codes : List ℕ) (s : Session) (source : List SourceRecord) (masked : List GateRecord)
    (r : GateRecord) where
  abbrev L : Lists
  L = lists_of s source masked

  abbrev first : Outcome Gate
  first = first_asked z (length codes) s.gates (length source) r

  abbrev ask14 : Gate → Outcome Gate
  ask14 g = ask 14 (room_for codes L g) (done g)

  then-14 : asked z codes L r ≡ and_then first ask14
  unfolding asked
  then-14 = ask-then (place_left z s.gates (length codes + s.gates) (length source))
      (gate_good (length codes + s.gates) r)
    where
      ask-then : (b : Bool) (x : Outcome Gate) → ask 24 b (and_then x ask14) ≡ and_then (ask 24 b x) ask14
      ask-then true x = refl
      ask-then false x = refl

  pub first-refused : (q : Refusal) → refused (number_of q) ≡ first → PlanIs z codes L r (Err q)
  first-refused q e = then-14 ∙ ap (λ (o : Outcome Gate). and_then o ask14) (sym e)

  module _ (k : Kind) (y : done (gate_as r k) ≡ first) where
    abbrev g : Gate
    g = gate_as r k

    abbrev left24 : Bool
    left24 = place_left z s.gates (length codes + s.gates) (length source)

    abbrev q24 : T left24 × (gate_good (length codes + s.gates) r ≡ done g)
    q24 = ask-done 24 left24 (gate_good (length codes + s.gates) r) g (sym y)

    yes24 : T (ltb s.gates (length source)) × T (ltb (length codes + s.gates) (source_limits z).wires)
    yes24 = both (ltb s.gates (length source)) (ltb (length codes + s.gates) (source_limits z).wires) q24.0

    pub place-left : s.gates < length source
    place-left = ltb→lt s.gates (length source) yes24.0

    -- within the limits
    pub few : length codes + s.gates < most_bits
    few = omega (arith, ltb→lt (length codes + s.gates) (source_limits z).wires yes24.1, few-wires z)

    is-gate : gate_of r ≡ some g
    is-gate =
        let q7 = and_then-done (given 7 (gate_of r)) (λ h. ask 8
        (operands_given (λ w. ltb w (length codes + s.gates)) h)
        (ask 9 (eqb (result h) (length codes + s.gates)) (done h))) g q24.1 in
        go q7.0 (given-done 7 (gate_of r) q7.0 q7.1) q7.2
      where
        go : (h : Gate) → gate_of r ≡ some h → ask 8 (operands_given (λ w. ltb w (length codes + s.gates)) h)
            (ask 9 (eqb (result h) (length codes + s.gates)) (done h)) ≡ done g → gate_of r ≡ some g
        go h i e =
            let q8 = ask-done 8 (operands_given (λ w. ltb w (length codes + s.gates)) h)
            (ask 9 (eqb (result h) (length codes + s.gates)) (done h)) g e in
            let q9 = ask-done 9 (eqb (result h) (length codes + s.gates)) (done h) g q8.1 in
            let d : ◌≡◌ {A = Outcome Gate} (done h) (done g) = q9.1 in
            let s : h ≡ g = cc in
            rw s at i

    asks14 : asked z codes L r ≡ ask14 g
    asks14 = then-14 ∙ ap (λ (o : Outcome Gate). and_then o ask14) (sym y)

    module _ {many : ℕ} {A B : Twin} (ea : A ≡ twin (present codes L) r.first)
        (eb : B ≡ twin (present codes L) r.second)
        (m : Many k A B many) where
      steps-at : steps codes L g ≡ steps_of (length codes) (present codes L).next k A B
      steps-at = rw (ea, eb) (steps-by (length codes) (present codes L) r.first r.second r.result k)

      count-is : length (steps codes L g) ≡ many
      count-is = ap length steps-at ∙ sym (m (length codes) (present codes L).next)

      room-is : room_for codes L g ≡ (leb (s.masked + many) (length masked) && leb (s.masked + many) most_masked)
      room-is = ap (λ (x : ℕ). leb (s.masked + x) (length masked) && leb (s.masked + x) most_masked) count-is

      pub list_full : length masked < s.masked + many → PlanIs z codes L r (Err Q.Room)
      list_full l = asks14 ∙ rw (room-is, lt-leb (s.masked + many) (length masked) l)

      pub too_many : most_masked < s.masked + many → PlanIs z codes L r (Err Q.Room)
      too_many l = asks14 ∙ rw (room-is, lt-leb (s.masked + many) most_masked l)
          (go (leb (s.masked + many) (length masked)))
        where
          go : (x : Bool) → ask 14 (x && false) (done g) ≡ refused 14
          go true = refl
          go false = refl

      module _ (c : Next) {t : Twin} (ec : c.wire ≡ length codes + 2 + s.masked) (et : t ≡ twin_of c.wire k A B)
          (room : s.masked + many ≤ length masked) (most : s.masked + many ≤ most_masked) where
        next-is : c.wire ≡ (present codes L).next
        next-is = omega (arith, ec)

        twin-is : result_twin (present codes L) g ≡ t
        twin-is = rw (et, ea, eb, next-is) (twin-by (length codes) (present codes L) r.first r.second r.result k)

        pub admits : PlanIs z codes L r (Ok (record {
          keep = source_record r t s.masked;
          steps = record { kind = k; a = A; b = B; c = c; count = many };
          session = session_of (s.gates + 1) (s.masked + many);
        }))
        admits = record {
          gate = g;
          admitted = asks14 ∙ rw (
            room-is,
            le-leb (s.masked + many) (length masked) room,
            le-leb (s.masked + many)
                most_masked most,
          ) refl;
          place = place-left;
          keep = sym (ap₂ (λ (x : GateRecord) (u : Twin). source_record x u s.masked) (record-of r g is-gate) twin-is);
          made = sym (steps-at ∙ rw (← next-is) refl);
          places = record { count = m (length codes) c.wire; fits = room; inputs = omega (arith, few) };
          session = ap (λ (x : ℕ). session_of (s.gates + 1) (s.masked + x)) (sym count-is);
        }
