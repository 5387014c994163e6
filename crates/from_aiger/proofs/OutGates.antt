-- The gates of outputs, put one after another before the literals that are left.
use Prim.Native.Nat.{ℕ, suc, ◌+◌, ◌-◌, ◌<◌, ◌≤◌}
use mathlib.Core.Path.{◌≡◌, refl, sym, ap, ◌∙◌}
use mathlib.Core.Bool.{Bool, true}
use mathlib.Core.List.{List, [], ◌∷◌, ◌++◌, map, append_assoc}
use native.Mathlib.Omega.{arith}
use lib.ListN.{length, take, drop, get_or, length-map, length-append, length-drop, take-append-drop}
use lib.Seq.{take_all, get_or-take, get_or-drop, length-take-le, length_front, take-append_seam, drop_at, drop-drop}
use borrow.Rule.Slice.PartMut.{mid_of}
use Rattle.netlist.specs.declared.Gate.{Gate}
use Rattle.netlist.specs.Lists.{every}
use Rattle.netlist.specs.Table.{Tables, tables, gate_in}
use Rattle.netlist.proofs.Puts.{gates-same}
use Rattle.aiger.specs.File.{Literal, literal}
use Rattle.aiger.specs.Rules.{readable}
use Rattle.aiger.specs.Made.{wire_at, out_gate, out_gates}
use Rattle.from_aiger.specs.Places.{Places, Keeps, Holding, Standing, OutIs}
use Rattle.from_aiger.specs.OutAnswers.{OutputsPut}
use Rattle.from_aiger.proofs.OutLines.{every_here}
use Rattle.from_aiger.proofs.KeptLines.{literal-more, literal-split, literals-whole}

-- ---- a table of results, and its front

keeps_same : {o r s : List ℕ} {c : ℕ} {gs : List Gate} → length gs ≤ length r → length gs ≤ length s
    → ((i : ℕ) → i < length gs → get_or s i 0 ≡ get_or r i 0) → Keeps (tables o r) c gs → Keeps (tables o s) c gs
keeps_same {o} {r} {s} {c} {gs} l m same k a b =
    let H : Holding (tables o r) c gs = k a l in
    record {
      gates = gates-same (tables o r) (tables o s) (length gs) (λ i h. ap (gate_in (get_or o i 0)) (same i h))
          ∙ H.gates;
      wired = record { operands = H.wired.operands; results = m; each = λ i h. rw (same i h) (H.wired.each i h) };
    }

module _ {table o : List ℕ} {n count : ℕ} {given wires : List ℕ} {gs : List Gate} where
  pub standing-front : {r : List ℕ} (m : ℕ) → m ≤ length r → count ≤ m → Standing table (tables o r) n count given wires
      gs
      → Standing table (tables o (take m r)) n count given wires gs
  standing-front {r} m l h S =
      let z = S.size in
      let y = length-take-le m r l in
      record {
        places = S.places;
        located = S.located;
        size = z;
        keeps = keeps_same (omega arith) (omega arith) (λ i b. get_or-take m r i 0 (omega arith)) S.keeps;
      }

  pub standing-whole : {f : List ℕ} (rest : List ℕ) → count ≤ length f → Standing table (tables o f) n count given wires
      gs
      → Standing table (tables o (f ++ rest)) n count given wires gs
  standing-whole {f} rest h S =
      let z = S.size in
      let y = length-append f rest in
      record {
        places = S.places;
        located = S.located;
        size = z;
        keeps = keeps_same (omega arith) (omega arith)
            (λ i b. sym (get_or-take (length f) (f ++ rest) i 0 (omega arith)) ∙ ap (λ (l : List ℕ). get_or l i 0)
            (take-append_seam f rest)) S.keeps;
      }

-- ---- one gate after another

out-snoc : (at : ℕ → ℕ) (c : ℕ) (xs : List Literal) (x : Literal) → out_gates at c (xs ++ (x ∷ [])) ≡ out_gates at c xs
    ++ (out_gate at x (c + length xs) ∷ [])
out-snoc at c [] x = let z : c + 0 ≡ c = omega arith in rw z refl
out-snoc at c (y ∷ ys) x =
    let z : c + suc (length ys) ≡ c + 1 + length ys = omega arith in
    rw z (ap (λ (gs : List Gate). out_gate at y c ∷ gs) (out-snoc at (c + 1) ys x))

-- the gates of the first i literals were put, and the others are left
pub record Putting (table o₀ r₀ : List ℕ) (room n before : ℕ) (o r : List ℕ) (i : ℕ) : Type 0 where
  pub all : (given wires : List ℕ) (gs : List Gate) → Standing table (tables o₀ r₀) n before given wires gs
      → every (readable given) (map literal (drop room r₀)) ≡ true
      → Standing table (tables o r) n (before + i) given wires
      (gs ++ out_gates (wire_at wires) (n + before) (map literal (take i (drop room r₀))))
  pub left : drop (room + i) r ≡ drop (room + i) r₀
  pub long : length r ≡ length r₀

module _ {table o₀ r₀ : List ℕ} {room n before : ℕ} {o r : List ℕ} {i : ℕ} (P : Putting table o₀ r₀ room n before o r i)
    (h : room + i < length r₀) where
  -- the literal that is next
  pub next-literal : get_or r (room + i) 0 ≡ get_or (drop room r₀) i 0
  next-literal =
      let z : room + i + 0 ≡ room + i = omega arith in
      ap (λ (k : ℕ). get_or r k 0) (sym z) ∙ sym (get_or-drop (room + i) r 0 0) ∙ ap (λ (l : List ℕ). get_or l 0 0)
      P.left ∙ get_or-drop (room + i) r₀ 0 0
      ∙ ap (λ (k : ℕ). get_or r₀ k 0) z ∙ sym (get_or-drop room r₀ i 0)

  pub putting-more : {x : ℕ} {p f : List ℕ} → before ≤ room → x ≡ get_or r (room + i) 0 → length f
      ≡ length (take (room + i + 1) r)
      → OutIs table (tables o (take (room + i + 1) r)) (tables p f) n (before + i) x
      → Putting table o₀ r₀ room n before p (f ++ drop (room + i + 1) r) (i + 1)
  putting-more {x} {p} {f} b e l out =
      let kept = drop room r₀ in
      let m : i < length kept = let d = length-drop room r₀ in omega arith in
      let k : length f ≡ room + i + 1 = let y = P.long in l ∙ length-take-le (room + i + 1) r (omega arith) in
      let q : x ≡ get_or kept i 0 = e ∙ next-literal in
      let y : length (map literal (take i kept)) ≡ i = length-map (take i kept) literal
      ∙ length-take-le i kept (omega arith) in
      record {
        all = λ given wires gs S good.
            let G = gs ++ out_gates (wire_at wires) (n + before) (map literal (take i kept)) in
            let T = standing-front (room + i + 1) (let y = P.long in omega arith) (omega arith)
            (P.all given wires gs S good) in
            let read : readable given (literal x) ≡ true = rw q
            (every_here (readable given) (map literal (take i kept)) (literal (get_or kept i 0))
            (map literal (drop (suc i) kept))
            (ap (every (readable given)) (sym (literal-split kept i m)) ∙ good)) in
            let U = standing-whole (drop (room + i + 1) r) (omega arith) (out given wires G T read) in
            let z : before + (i + 1) ≡ before + i + 1 = omega arith in
            let c : n + (before + i) ≡ n + before + length (map literal (take i kept)) = omega arith in
            let g : gs ++ out_gates (wire_at wires) (n + before) (map literal (take (i + 1) kept)) ≡ G
            ++ (out_gate (wire_at wires) (literal x) (n + (before + i)) ∷ []) =
            rw (literal-more kept i m, c, q) (ap (λ (os : List Gate). gs ++ os)
            (out-snoc (wire_at wires) (n + before) (map literal (take i kept))
            (literal (get_or kept i 0))) ∙ sym (append_assoc gs _ _)) in
            rw (z, g) U;
        left =
            let z : room + (i + 1) ≡ room + i + 1 = omega arith in
            rw z (drop_at f (drop (room + i + 1) r) (room + i + 1) k ∙ sym (drop-drop 1 (room + i) r)
            ∙ ap (drop 1) P.left ∙ drop-drop 1 (room + i) r₀);
        long = length_front r f (room + i + 1) l ∙ P.long;
      }

pub putting-all : {table o₀ r₀ : List ℕ} {room n before : ℕ} {o r : List ℕ} {i : ℕ} → Putting table o₀ r₀ room n before
    o r i → i ≡ length (drop room r₀)
    → OutputsPut table (tables o₀ r₀) (tables o r) n before (drop room r₀)
putting-all {table} {o₀} {r₀} {room} {n} {before} {o} {r} {i} P e given wires gs S good =
    let kept = drop room r₀ in
    let w : map literal (take i kept) ≡ map literal kept = literals-whole kept i (omega arith) in
    rw (← e, ← w) (P.all given wires gs S good)

-- ---- all gates

pub outs-length : (at : ℕ → ℕ) (c : ℕ) (xs : List Literal) → length (out_gates at c xs) ≡ length xs
outs-length at c [] = refl
outs-length at c (x ∷ xs) = ap suc (outs-length at (c + 1) xs)

pub part_end : (room : ℕ) (r : List ℕ) → mid_of room (length r - room) r ≡ drop room r
part_end room r = let l = length-drop room r in take_all (length r - room) (drop room r) (omega arith)

-- an answer on that part
pub read-end : (table r : List ℕ) (room : ℕ) (a b : Bool) → a ≡ b
    → ((given wires : List ℕ) → Places table given wires → a
    ≡ every (readable given) (map literal (mid_of room (length r - room) r)))
    → (given wires : List ℕ) → Places table given wires → b ≡ every (readable given) (map literal (drop room r))
read-end table r room a b e h given wires P = sym e ∙ h given wires P
    ∙ ap (λ (xs : List ℕ). every (readable given) (map literal xs)) (part_end room r)

module _ {table o : List ℕ} (r : List ℕ) (room n count : ℕ) (inside : room ≤ length r) where
  -- they are more than the table has entries
  pub outputs-large : {p s : List ℕ} → room < count → length s ≡ length r → (given wires : List ℕ) (gs : List Gate)
      → Standing table (tables o (take room r)) n count given wires gs
      → Keeps (tables p s) (n + (count + length (drop room r)))
      (gs ++ out_gates (wire_at wires) (n + count) (map literal (drop room r)))
  outputs-large h same given wires gs S a b =
      let x = length-append gs (out_gates (wire_at wires) (n + count) (map literal (drop room r))) in
      let y = outs-length (wire_at wires) (n + count) (map literal (drop room r)) in
      let z = length-map (drop room r) literal in
      absurd (omega (arith, x, y, z, length-drop room r, S.size, h, same, inside, b))

  -- they have room
  pub outputs-put : {u : Tables} → count ≤ room → OutputsPut table (tables o r) u n count (drop room r)
      → ((given wires : List ℕ) → Places table given wires → true ≡ every (readable given) (map literal (drop room r)))
      → (given wires : List ℕ) (gs : List Gate) → Standing table (tables o (take room r)) n count given wires gs
      → Keeps u (n + (count + length (drop room r))) (gs ++ out_gates (wire_at wires) (n + count)
      (map literal (drop room r)))
  outputs-put h put read given wires gs S =
      let T = standing-whole (drop room r) (let l = length-take-le room r inside in omega arith) S in
      (put given wires gs (rw (take-append-drop room r) at T) (sym (read given wires S.places))).keeps
