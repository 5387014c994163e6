-- Adding keeps what the lists hold, and asks what is asked of the gates.
use Prim.Native.Nat.{ℕ, zero, suc, ◌+◌, ◌*◌, ◌≤◌, ◌<◌}
use mathlib.Core.Path.{◌≡◌, refl, sym, ap, ap₂, ◌∙◌}
use mathlib.Core.Bool.{Bool, true, false, ◌&&◌}
use mathlib.Core.List.{List, [], ◌∷◌, ◌++◌, map}
use mathlib.Core.Option.{Option, none, some}
use native.Mathlib.Omega.{arith}
use native.Mathlib.Numerals.{add-one}
use lib.Dec.{T, eqb, leb, ltb, leb→le, le→leb, ltb→lt, eqb→eq}
use lib.ListN.{length, get_or, set, take, length-append, length-map}
use lib.Seq.{take-suc-set, take_at, take-append-le, sets, sets-eq, get_or-take, get_or-set_same, get_or-set_other}
use lib.Seq.{length-take-le}
use borrow.Author.Tests.{eq-eqb}
use Rattle.netlist.specs.declared.Gate.{Gate}
use Rattle.netlist.specs.declared.Sizes.{Sizes}
use Rattle.netlist.specs.declared.Sizes.TheVariants.{Standard, Whole}
use Rattle.netlist.specs.declared.Twin.{Twin}
use Rattle.netlist.specs.Netlist.{source_limits, result}
use Rattle.netlist.specs.Outcome.{Outcome, done, ask, given, and_then}
use Rattle.netlist.specs.Read.{operands_given}
use Rattle.masking.specs.Mask.{State, no_twin, input_twins, emit, result_twin}
use Rattle.netlist.proofs.Tests.{both, is_true, clash}
use Rattle.netlist.proofs.Questions.{ask-done, and_then-done}
use Rattle.masking.proofs.PublicGates.{length-input_twins}
use Rattle.gates.specs.declared.records.GateRecord.{GateRecord}
use Rattle.gates.specs.declared.records.SourceRecord.{SourceRecord}
use Rattle.gates.specs.Records.{record_of, gate_of, source_record, blank_source, gate_in, twin_in}
use Rattle.session.specs.Afresh.{afresh, following}
use Rattle.session.specs.Asked.{gate_good, gate_asked, place_left, adding}
use Rattle.session.specs.Lists.{Lists, present, steps, room_for, most_masked, asked, added}
use Rattle.session.specs.Rows.{Rising, Holds}
use Rattle.session.proofs.Padded.{Alike, alike-below, emit-alike, twin-alike}
use Rattle.session.proofs.More.{afresh-more, after_more, next-following, afresh-most}

pub map_more : {A B : Type 0} (f : A → B) (xs ys : List A) → map f (xs ++ ys) ≡ map f xs ++ map f ys
map_more f [] ys = refl
map_more f (x ∷ xs) ys = ap (λ r. f x ∷ r) (map_more f xs ys)

map-set : {A B : Type 0} (f : A → B) (xs : List A) (i : ℕ) (a : A) → map f (set xs i a) ≡ set (map f xs) i (f a)
map-set f [] i a = refl
map-set f (x ∷ xs) zero a = refl
map-set f (x ∷ xs) (suc i) a = ap (λ r. f x ∷ r) (map-set f xs i a)

eqb_no : (x y : ℕ) → eqb x y ≡ false → x ≡ y → ⊥
eqb_no x y e f = let z : eqb x y ≡ true = eq-eqb x y f in let w : ◌≡◌ {A = Bool} true false = sym z ∙ e in clash (cc)

-- an entry after a front is set
set-following : {A : Type 0} (xs ys : List A) (i : ℕ) (a : A) → set (xs ++ ys) (length xs + i) a ≡ xs ++ set ys i a
set-following [] ys i a = let z : 0 + i ≡ i = omega arith in ap (λ (k : ℕ). set ys k a) z
set-following (x ∷ xs) ys i a = let z : suc (length xs) + i ≡ suc (length xs + i) = omega arith
    in rw z (ap (λ r. x ∷ r) (set-following xs ys i a))

pub rising-more : (w : ℕ) (gs : List Gate) (g : Gate) → Rising w gs → result g ≡ w + length gs
    → Rising w (gs ++ (g ∷ []))
rising-more w [] g r e = (omega (arith, e), tt)
rising-more w (h ∷ gs) g r e = (r.0, rising-more (w + 1) gs g r.1 (omega (arith, e)))

pub length_more : (gs : List Gate) (g : Gate) → length (gs ++ (g ∷ [])) ≡ length gs + 1
length_more gs g = length-append gs (g ∷ [])

-- within the limits there are never too many masked gates
few : (z : Sizes) (n m k : ℕ) → n + m < (source_limits z).wires → k ≤ 3 + n + 8 * (m + 1) → k ≤ most_masked
few Standard n m k l h = omega (arith, l, h)
few Whole n m k l h = omega (arith, l, h)

module _ {z : Sizes} {codes : List ℕ} {gs : List Gate} {L : Lists} (h : Holds z codes gs L) where
  abbrev n : ℕ
  n = length codes

  abbrev ins : List Twin
  ins = input_twins (n + 5) 0 codes

  pub next-is : (present codes L).next ≡ (following codes gs).next
  next-is = omega (arith, h.masked, next-following codes gs)

  pub wire-is : n + L.session.gates ≡ n + length gs
  wire-is = omega (arith, h.gates)

  -- the lists have the twins of the wires that are given
  table-alike : (g : Gate) → T (operands_given (λ w. ltb w (n + length gs)) g)
      → Alike (present codes L) (following codes gs) g
  table-alike = alike-below (present codes L) (following codes gs) (n + length gs)
      (λ w l. sym (get_or-take (n + length gs) (present codes L).twins w no_twin l)
      ∙ ap (λ (ts : List Twin). get_or ts w no_twin) h.twins)

  module _ (g : Gate) (given8 : T (operands_given (λ w. ltb w (n + length gs)) g)) where
    pub steps-is : steps codes L g ≡ emit n (following codes gs) g
    steps-is = emit-alike (present codes L) (following codes gs) next-is n g (table-alike g given8)

    pub twin-is : result_twin (present codes L) g ≡ result_twin (following codes gs) g
    twin-is = twin-alike (present codes L) (following codes gs) next-is g (table-alike g given8)

    pub afresh-then : afresh codes (gs ++ (g ∷ [])) ≡ afresh codes gs ++ steps codes L g
    afresh-then = afresh-more codes gs g h.rising ∙ ap (λ (x : List Gate). afresh codes gs ++ x) (sym steps-is)

    pub longer-is : L.session.masked + length (steps codes L g) ≡ length (afresh codes (gs ++ (g ∷ [])))
    longer-is = omega (arith, h.masked, ap length afresh-then, length-append (afresh codes gs) (steps codes L g))

    module _ (nine : result g ≡ n + length gs) (place : length gs < length L.source)
        (below : n + length gs < (source_limits z).wires)
        (room : L.session.masked + length (steps codes L g) ≤ length L.masked) where
      abbrev t : Twin
      t = result_twin (present codes L) g

      abbrev vs : List GateRecord
      vs = map record_of (steps codes L g)

      abbrev r : SourceRecord
      r = source_record (record_of g) t L.session.masked

      more-source : take (length (gs ++ (g ∷ []))) (map gate_in (set L.source L.session.gates r))
          ≡ map record_of (gs ++ (g ∷ []))
      more-source =
          ap₂ (λ (k i : ℕ). take k (map gate_in (set L.source i r))) (length_more gs g ∙ add-one (length gs)) h.gates
          ∙ ap (take (suc (length gs))) (map-set gate_in L.source (length gs) r)
          ∙ take-suc-set (map gate_in L.source) (length gs) (record_of g)
          (omega (arith, place, length-map L.source gate_in))
          ∙ ap (λ (x : List GateRecord). x ++ (record_of g ∷ [])) h.sources
          ∙ sym (map_more record_of gs (g ∷ []))

      more-masked : take (length (afresh codes (gs ++ (g ∷ [])))) (sets L.masked L.session.masked vs)
          ≡ map record_of (afresh codes (gs ++ (g ∷ [])))
      more-masked =
          let k = length (afresh codes gs) in
          let lv : length vs ≡ length (steps codes L g) = length-map (steps codes L g) record_of in
          let lk : length (take k L.masked) ≡ k = length-take-le k L.masked (omega (arith, h.masked, room)) in
          ap₂ (λ (j i : ℕ). take j (sets L.masked i vs)) (ap length afresh-then ∙ length-append (afresh codes gs)
          (steps codes L g)) h.masked
          ∙ ap (λ (x : List GateRecord). take (k + length (steps codes L g)) x)
          (sets-eq vs L.masked k (omega (arith, h.masked, room, lv)))
          ∙ take_at (take k L.masked ++ vs) _ (k + length (steps codes L g)) (length-append (take k L.masked) vs
          ∙ ap₂ (λ (a b : ℕ). a + b) lk lv)
          ∙ ap (λ (x : List GateRecord). x ++ vs) h.maskeds
          ∙ sym (map_more record_of (afresh codes gs) (steps codes L g))
          ∙ ap (map record_of) (sym afresh-then)

      more-following : (following codes (gs ++ (g ∷ []))).twins ≡ (following codes gs).twins ++ (t ∷ [])
      more-following = ap (λ (S : State). S.twins) (after_more codes gs g h.rising nine)
          ∙ ap (λ (u : Twin). (following codes gs).twins ++ (u ∷ [])) (sym twin-is)

      more-twins : take (n + length (gs ++ (g ∷ []))) (present codes (added codes L g)).twins
          ≡ (following codes (gs ++ (g ∷ []))).twins
      more-twins =
          let e : n + length (gs ++ (g ∷ [])) ≡ suc (n + length gs) = omega (arith, length_more gs g) in
          let w : n + length gs ≡ length ins + L.session.gates
          = omega (arith, h.gates, length-input_twins (n + 5) 0 codes) in
          ap₂ (λ (k : ℕ) (us : List Twin). take k (ins ++ us)) e (map-set twin_in L.source L.session.gates r)
          ∙ ap (take (suc (n + length gs))) (sym (set-following ins (map twin_in L.source) L.session.gates t))
          ∙ ap (λ (i : ℕ). take (suc (n + length gs)) (set (ins ++ map twin_in L.source) i t)) (sym w)
          ∙ take-suc-set (ins ++ map twin_in L.source) (n + length gs) t
          (omega (
            arith,
            place,
            length-append ins (map twin_in L.source),
            length-map L.source twin_in,
            length-input_twins (n + 5) 0 codes,
          ))
          ∙ ap (λ (x : List Twin). x ++ (t ∷ [])) h.twins
          ∙ sym more-following

      more-froms : (i : ℕ) → i < length (gs ++ (g ∷ [])) → (get_or (set L.source L.session.gates r) i blank_source).from
          ≡ length
          (afresh codes (take i (gs ++ (g ∷ []))))
      more-froms i l = go (eqb i (length gs)) refl
        where
          go : (b : Bool) → eqb i (length gs) ≡ b → (get_or (set L.source L.session.gates r) i blank_source).from
              ≡ length (afresh codes (take i (gs ++ (g ∷ []))))
          go true e =
              let k : i ≡ length gs = eqb→eq i (length gs) (rw e tt) in
              ap₂ (λ (x y : ℕ). (get_or (set L.source x r) y blank_source).from) h.gates k
              ∙ ap (λ (x : SourceRecord). x.from) (get_or-set_same L.source (length gs) r blank_source place)
              ∙ h.masked
              ∙ ap (λ (hs : List Gate). length (afresh codes hs)) (sym (take_at gs (g ∷ []) i (sym k)))
          go false e =
              let k : i < length gs = omega (arith, l, length_more gs g, eqb_no i (length gs) e) in
              ap (λ (x : ℕ). (get_or (set L.source x r) i blank_source).from) h.gates
              ∙ ap (λ (x : SourceRecord). x.from) (get_or-set_other L.source (length gs) i r blank_source
              (eqb_no i (length gs) e))
              ∙ h.froms i k
              ∙ ap (λ (hs : List Gate). length (afresh codes hs))
              (sym (take-append-le i gs (g ∷ []) (omega (arith, k))))

      pub added-holds : Holds z codes (gs ++ (g ∷ [])) (added codes L g)
      added-holds = record {
        gates = omega (arith, h.gates, length_more gs g);
        masked = longer-is;
        sources = more-source;
        maskeds = more-masked;
        twins = more-twins;
        froms = more-froms;
        rising = rising-more n gs g h.rising nine;
        within = omega (arith, length_more gs g, below);
      }

  -- the questions put to the session and its lists are those put to the gates
  module _ (r : GateRecord) where
    abbrev fresh : Gate → Bool
    fresh g = leb (length (afresh codes (gs ++ (g ∷ [])))) (length L.masked)

    room-is : (g : Gate) → n + length gs < (source_limits z).wires → T (operands_given (λ w. ltb w (n + length gs)) g)
        → room_for codes L g ≡ fresh g
    room-is g l t =
        let k = longer-is g t in
        let m = few z n (length gs) (length (afresh codes (gs ++ (g ∷ [])))) l
        (omega (arith, afresh-most codes (gs ++ (g ∷ [])), length_more gs g)) in
        ap (λ (x : ℕ). leb x (length L.masked) && leb x most_masked) k
        ∙ ap (λ (b : Bool). fresh g && b) (is_true (leb (length (afresh codes (gs ++ (g ∷ [])))) most_masked)
        (le→leb (length (afresh codes (gs ++ (g ∷ [])))) most_masked m))
        ∙ and-true (fresh g)
      where
        and-true : (b : Bool) → (b && true) ≡ b
        and-true true = refl
        and-true false = refl

    asked-gate : n + length gs < (source_limits z).wires → (o : Option Gate)
        → (and_then (and_then (given 7 o) λ g. ask 8 (operands_given (λ w. ltb w (n + length gs)) g)
        (ask 9 (eqb (result g) (n + length gs)) (done g))) λ g. ask 14
        (room_for codes L g) (done g))
        ≡ (and_then (and_then (given 7 o) λ g. ask 8 (operands_given (λ w. ltb w (n + length gs)) g)
        (ask 9 (eqb (result g) (n + length gs)) (done g))) λ g. ask 14
        (fresh g) (done g))
    asked-gate l none = refl
    asked-gate l (some g) = go (operands_given (λ w. ltb w (n + length gs)) g) (eqb (result g) (n + length gs))
        (room-is g l)
      where
        go : (b c : Bool) → (T b → room_for codes L g ≡ fresh g)
            → (and_then (ask 8 b (ask 9 c (done g))) λ g. ask 14 (room_for codes L g) (done g))
            ≡ (and_then (ask 8 b (ask 9 c (done g))) λ g. ask 14 (fresh g) (done g))
        go true true e = ap (λ (k : Bool). ask 14 k (done g)) (e tt)
        go true false e = refl
        go false c e = refl

    ask-under : {A : Type 0} (q : ℕ) (b : Bool) (x y : Outcome A) → (T b → x ≡ y) → ask q b x ≡ ask q b y
    ask-under q true x y e = e tt
    ask-under q false x y e = refl

    asked_is : asked z codes L r ≡ ask 24 (place_left z (length gs) (n + length gs) (length L.source))
        (gate_asked (n + length gs) fresh r)
    unfolding asked
    asked_is =
        ap₂ (λ (i w : ℕ). ask 24 (place_left z i w (length L.source)) (gate_asked w (room_for codes L) r)) h.gates
        wire-is
        ∙ ask-under 24 (place_left z (length gs) (n + length gs) (length L.source))
        (gate_asked (n + length gs) (room_for codes L) r) (gate_asked (n + length gs) fresh r)
        (λ t. asked-gate (ltb→lt (n + length gs) (source_limits z).wires
        (both (ltb (length gs) (length L.source)) (ltb (n + length gs) (source_limits z).wires) t).1) (gate_of r))

    ask-then : {A B : Type 0} (q : ℕ) (b : Bool) (x : Outcome A) (f : A → Outcome B) → and_then (ask q b x) f
        ≡ ask q b (and_then x f)
    ask-then q true x f = refl
    ask-then q false x f = refl

    pub adding-is : adding z codes (length L.source) (length L.masked) gs r
        ≡ (and_then (asked z codes L r) λ g. done (gs ++ (g ∷ [])))
    unfolding adding
    adding-is = sym (ap (λ (o : Outcome Gate). and_then o λ g. done (gs ++ (g ∷ []))) asked_is
        ∙ ask-then 24 (place_left z (length gs) (n + length gs) (length L.source)) (gate_asked (n + length gs) fresh r)
        (λ g. done (gs ++ (g ∷ []))))

    abbrev W : ℕ
    W = n + L.session.gates

    abbrev asks9 : Gate → Outcome Gate
    asks9 g = ask 9 (eqb (result g) W) (done g)

    abbrev asks8 : Gate → Outcome Gate
    asks8 g = ask 8 (operands_given (λ w. ltb w W) g) (asks9 g)

    abbrev asks14 : Gate → Outcome Gate
    asks14 g = ask 14 (room_for codes L g) (done g)

    -- a gate that is admitted is added
    pub admitted-holds : (g : Gate) → asked z codes L r ≡ done g → Holds z codes (gs ++ (g ∷ [])) (added codes L g)
    unfolding asked
    admitted-holds g e =
        let q24 = ask-done 24 (place_left z L.session.gates W (length L.source)) (gate_asked W (room_for codes L) r) g e
        in
        let q9 = and_then-done (gate_good W r) asks14 g q24.1 in
        let q7 = and_then-done (given 7 (gate_of r)) asks8 q9.0 q9.1 in
        go q9.0 q7.0 (both (ltb L.session.gates (length L.source)) (ltb W (source_limits z).wires) q24.0) q7.2 q9.2
      where
        go : (k h : Gate) → T (ltb L.session.gates (length L.source)) × T (ltb W (source_limits z).wires) → asks8 h
            ≡ done k → asks14 k ≡ done g → Holds z codes
            (gs ++ (g ∷ [])) (added codes L g)
        go k h' b e e14 =
            let q8 = ask-done 8 (operands_given (λ w. ltb w W) h') (asks9 h') k e in
            let q9 = ask-done 9 (eqb (result h') W) (done h') k q8.1 in
            let q14 = ask-done 14 (room_for codes L k) (done k) g e14 in
            let d9 : ◌≡◌ {A = Outcome Gate} (done h') (done k) = q9.1 in
            let d14 : ◌≡◌ {A = Outcome Gate} (done k) (done g) = q14.1 in
            let s9 : h' ≡ k = cc in
            let s14 : k ≡ g = cc in
            let i24 = ltb→lt L.session.gates (length L.source) b.0 in
            let w24 = ltb→lt W (source_limits z).wires b.1 in
            let m = L.session.masked + length (steps codes L k) in
            rw s14 at (added-holds k
            (rw (s9, wire-is) at q8.0)
            (rw s9 at (eqb→eq (result h') W q9.0 ∙ wire-is))
            (omega (arith, i24, h.gates))
            (omega (arith, w24, wire-is))
            (leb→le m (length L.masked) (both (leb m (length L.masked)) (leb m most_masked) q14.0).0))
