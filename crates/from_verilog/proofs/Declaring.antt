-- Declarations loaded into the tables, one token after another.
use Rattle.std.specs.Prelude.{Option, Some, None, is_some}
use Prim.Native.Nat.{ℕ, zero, suc, ◌+◌, ◌≤◌, ◌<◌}
use mathlib.Core.Path.{◌≡◌, refl, sym, ap, ◌∙◌}
use mathlib.Core.Bool.{Bool, true, false, not, ◌&&◌, ◌||◌}
use mathlib.Core.List.{List, [], ◌∷◌, ◌++◌, append_assoc, append-nil}
use mathlib.Core.Option.{some}
use native.Mathlib.Omega.{arith}
use lib.Dec.{eqb, leb}
use lib.ListN.{length, take, drop, set, length-append}
use borrow.Author.Tests.{le-leb, ne_eqb, eqb-true, eqb-false, lt-leb, leb-true, leb-false}
use Rattle.netlist.specs.Lists.{same_bytes}
use Rattle.netlist.proofs.Tests.{on_bool}
use Rattle.netlist.proofs.Questions.{some_same}
use Rattle.verilog.specs.Tokens.{Token, name, mark, elem, tokens}
use Rattle.verilog.specs.Equations.{Entry, entry}
use Rattle.verilog.proofs.Listing.{same-equal, same_self}
use Rattle.from_verilog.specs.Next.{code_of, token_of, between, TokenAt}
use Rattle.from_verilog.proofs.Firsts.{never, token-code, first, none_left}
use Rattle.from_verilog.specs.Names.{name_at, names_of, found, entry_number, Chained, Added}
use Rattle.from_verilog.proofs.Adding.{chained_more, names-added}
use Rattle.from_verilog.specs.Stages.{declares, kind_after, declared_from, after_declared, keys, kinds, fresh}
use Rattle.from_verilog.specs.Stages.{AllDeclared, NotDeclared}
use Rattle.from_verilog.specs.One.{NameIs, OneSays}

-- ---- names found and names in the list

pub elem-snoc : (w x : List ℕ) (xs : List (List ℕ)) → elem w (xs ++ x ∷ []) ≡ (elem w xs || same_bytes w x)
elem-snoc w x [] = go (same_bytes w x)
  where
    go : (b : Bool) → (b || false) ≡ (false || b)
    go true = refl
    go false = refl
elem-snoc w x (y ∷ xs) = ap (λ (b : Bool). same_bytes w y || b) (elem-snoc w x xs) ∙ go (same_bytes w y) (elem w xs)
    (same_bytes w x)
  where
    go : (a b c : Bool) → (a || (b || c)) ≡ ((a || b) || c)
    go true b c = refl
    go false b c = refl

pub same-other : (u v : List ℕ) → same_bytes u v ≡ false → same_bytes v u ≡ false
same-other u v e = on_bool (same_bytes v u)
    (λ h. absurd (never (sym (ap (λ (x : List ℕ). same_bytes x v) (sym (same-equal v u h)) ∙ same_self v) ∙ e)))
    (λ h. h)

pub found-elem : (t words w : List ℕ) (n : ℕ) → eqb (found t words w n) 0 ≡ not (elem w (names_of t words n))
unfolding found
found-elem t words w zero = refl
found-elem t words w (suc n) =
    let x = name_at t words n in
    let xs = names_of t words n in
    on_bool (same_bytes x w)
    (λ e. let k : same_bytes w x ≡ true = ap (same_bytes w) (same-equal x w e) ∙ same_self w in
    rw e (ne_eqb (suc n) 0 (λ z. omega (arith, z))
    ∙ sym (ap not (elem-snoc w x xs ∙ last (elem w xs) (same_bytes w x) k))))
    (λ e. rw e (found-elem t words w n
    ∙ sym (ap not (elem-snoc w x xs ∙ none (elem w xs) (same_bytes w x) (same-other x w e)))))
  where
    last : (a b : Bool) → b ≡ true → (a || b) ≡ true
    last true b e = refl
    last false b e = e

    none : (a b : Bool) → b ≡ false → (a || b) ≡ a
    none true b e = refl
    none false b e = e

-- ---- a name looked up, and one more

entry-some : (o : Option ℕ) → is_some o ≡ true → 0 < entry_number o
entry-some None e = absurd (never (sym e))
entry-some (Some i) e = omega arith

entry-none : (o : Option ℕ) → is_some o ≡ false → entry_number o ≡ 0
entry-none None e = refl
entry-none (Some i) e = absurd (never e)

module _ {t heads words links st : List ℕ} {size most count kind from to : ℕ} (o : Option ℕ) (room : count < most)
    (f : entry_number o ≡ found t words (between t from to) count) where
  pub name-known : is_some o ≡ true → NameIs t size most count kind from to heads heads words words links links st st
      false
  name-known e = record {
    said = rw (
      le-leb (count + 1) most (omega (arith, room)),
      ne_eqb (found t words (between t from to) count) 0
          (omega (arith, f, entry-some o e)),
    ) refl;
    added = λ q. absurd (never (sym q));
    state = λ q. absurd (never (sym q));
  }

  pub name-new : is_some o ≡ false → {heads' words' links' : List ℕ} {x : ℕ} → Added t heads heads' words words' links
      links' size count from to → x ≡ kind
      → NameIs t size most count kind from to heads heads' words words' links links' st (set st count x) true
  name-new e A k = record {
    said = rw (le-leb (count + 1) most (omega (arith, room)), sym f ∙ entry-none o e) refl;
    added = λ q. A;
    state = λ q. ap (set st count) k;
  }

-- ---- lists that grow at their end

keys-snoc : (es : List (Entry ℕ)) (e : Entry ℕ) → keys (es ++ e ∷ []) ≡ keys es ++ e.key ∷ []
keys-snoc [] e = refl
keys-snoc (x ∷ es) e = ap (λ (ys : List (List ℕ)). x.key ∷ ys) (keys-snoc es e)

kinds-snoc : (es : List (Entry ℕ)) (e : Entry ℕ) → kinds (es ++ e ∷ []) ≡ kinds es ++ e.value ∷ []
kinds-snoc [] e = refl
kinds-snoc (x ∷ es) e = ap (λ (ys : List ℕ). x.value ∷ ys) (kinds-snoc es e)

take-set : (xs : List ℕ) (n x : ℕ) → n < length xs → take (n + 1) (set xs n x) ≡ take n xs ++ x ∷ []
take-set [] n x h = absurd (omega arith)
take-set (y ∷ xs) zero x h = refl
take-set (y ∷ xs) (suc n) x h =
    let z : suc n + 1 ≡ suc (n + 1) = omega arith in
    ap (λ (k : ℕ). take k (y ∷ set xs n x)) z ∙ ap (λ (ys : List ℕ). y ∷ ys) (take-set xs n x (omega arith))

length-snoc : {A : Type 0} (xs : List A) (x : A) → length (xs ++ x ∷ []) ≡ length xs + 1
length-snoc [] x = refl
length-snoc (y ∷ xs) x = let h = length-snoc xs x in omega (arith, h)

-- ---- the loop

pub record Loading (t words st : List ℕ) (count kind place : ℕ) (ts : List Token) : Type 0 where
  pub done : List (Entry ℕ)
  pub rest : List Token
  pub left : tokens (drop place t) ≡ some rest
  pub split : declared_from 0 ts ≡ done ++ declared_from kind rest
  pub following : after_declared ts ≡ after_declared rest
  pub names : names_of t words count ≡ keys done
  pub states : take count st ≡ kinds done
  pub once : fresh [] (keys (declared_from 0 ts)) ≡ fresh (keys done) (keys (declared_from kind rest))
  pub many : length done ≡ count

pub record Declaring (t : List ℕ) (at size most : ℕ) (heads₀ words₀ links₀ st₀ heads words links st : List ℕ)
    (code from to place count kind : ℕ) : Type 0 where
  pub token : TokenAt t place code from to
  pub names : Chained t heads words links size count
  pub few : count ≤ most
  pub headed : length heads ≡ length heads₀
  pub worded : length words ≡ length words₀
  pub linked : length links ≡ length links₀
  pub stated : length st ≡ length st₀
  pub gives : (ts : List Token) → tokens (drop at t) ≡ some ts → Loading t words st count kind place ts

declared-name : (κ : ℕ) (w : List ℕ) (ts : List Token) → declared_from κ (name w ∷ ts) ≡ entry w κ ∷ declared_from κ ts
unfolding declared_from
declared-name κ w ts = refl

declared-mark : (κ : ℕ) (x : Token) (ts : List Token) → (code_of x ≡ 15 → ⊥) → declares (code_of x) ≡ true
    → declared_from κ (x ∷ ts) ≡ declared_from
    (kind_after κ (code_of x)) ts
unfolding declared_from
declared-mark κ (name w) ts h e = absurd (h refl)
declared-mark κ (mark k) ts h e = rw e

declared-end : (κ : ℕ) (x : Token) (ts : List Token) → declares (code_of x) ≡ false → declared_from κ (x ∷ ts) ≡ []
unfolding declared_from
declared-end κ (name w) ts e = absurd (never e)
declared-end κ (mark k) ts e = rw e

following-on : (x : Token) (ts : List Token) → declares (code_of x) ≡ true → after_declared (x ∷ ts) ≡ after_declared ts
unfolding after_declared
following-on x ts e = rw e

following-end : (x : Token) (ts : List Token) → declares (code_of x) ≡ false → after_declared (x ∷ ts) ≡ x ∷ ts
unfolding after_declared
following-end x ts e = rw e

fresh_on : (ps : List (List ℕ)) (w : List ℕ) (ws : List (List ℕ)) → elem w ps ≡ false → fresh ps (w ∷ ws)
    ≡ fresh (ps ++ w ∷ []) ws
unfolding fresh
fresh_on ps w ws e = rw e

fresh-off : (ps : List (List ℕ)) (w : List ℕ) (ws : List (List ℕ)) → elem w ps ≡ true → fresh ps (w ∷ ws) ≡ false
unfolding fresh
fresh-off ps w ws e = rw e

nothing-declared : (κ : ℕ) → declared_from κ [] ≡ []
unfolding declared_from
nothing-declared κ = refl

nothing-following : after_declared [] ≡ []
unfolding after_declared
nothing-following = refl

fresh-end : (ps : List (List ℕ)) → fresh ps [] ≡ true
unfolding fresh
fresh-end ps = refl

both-sides : (a b : Bool) → (a && b) ≡ true → (a ≡ true) × (b ≡ true)
both-sides true b e = (refl, e)
both-sides false b e = absurd (never (sym e))

either_side : (a b : Bool) → (a && b) ≡ false → {P : Type 0} → (a ≡ false → P) → (b ≡ false → P) → P
either_side true b e f g = g e
either_side false b e f g = f refl

right-false : (a b : Bool) → b ≡ false → (a && b) ≡ false
right-false true b e = e
right-false false b e = refl

not-false : (b : Bool) → not b ≡ false → b ≡ true
not-false true e = refl
not-false false e = absurd (never e)

not-true : (b : Bool) → not b ≡ true → b ≡ false
not-true true e = absurd (never (sym e))
not-true false e = refl

declares-some : (c : ℕ) → declares c ≡ true → eqb c 0 ≡ false
declares-some c e = on_bool (eqb c 0) (λ z. absurd (never (sym e ∙ ap declares (eqb-true c 0 z)))) (λ z. z)

name-marked : (w : List ℕ) → token_of 15 w ≡ some (name w)
unfolding token_of
name-marked w = refl

module _ {t : List ℕ} {at size most : ℕ} {heads₀ words₀ links₀ st₀ : List ℕ} where
  pub load-start : {code from to : ℕ} → Chained t heads₀ words₀ links₀ size 0 → TokenAt t at code from to
      → Declaring t at size most heads₀ words₀ links₀ st₀ heads₀ words₀ links₀ st₀ code from to at 0 0
  load-start C A = record {
    token = A;
    names = C;
    few = omega arith;
    headed = refl;
    worded = refl;
    linked = refl;
    stated = refl;
    gives = λ ts e. record {
      done = [];
      rest = ts;
      left = e;
      split = refl;
      following = refl;
      names = refl;
      states
          = refl;
      once = refl;
      many = refl;
    };
  }

  module _ {heads words links st : List ℕ} {code from to place count kind : ℕ}
      (D : Declaring t at size most heads₀ words₀ links₀ st₀ heads words links st code from to place count kind) where
    -- the name at this place, and what follows it
    this : code ≡ 15 → (ts : List Token) → tokens (drop place t) ≡ some ts → (us : List Token)
        × (ts ≡ name (between t from to) ∷ us) × (tokens (drop to t) ≡ some us)
    this e ts q =
        let F = first t place code from to D.token ts q (ap (λ (j : ℕ). eqb j 0) e) in
        let w = between t from to in
        let n : name w ≡ F.token = some_same (name w) F.token (sym (ap (λ (j : ℕ). token_of j w) e ∙ name-marked w)
        ∙ F.is) in
        (F.more, F.split ∙ ap (λ (y : Token). y ∷ F.more) (sym n), F.left)

    pub load-end : declares code ≡ false → AllDeclared t at size most heads words links st count place
    load-end h = record {
      names = D.names;
      few = D.few;
      within = omega (arith, D.token.start, D.token.onward, D.token.within);
      gives = λ ts e.
          let L = D.gives ts e in
          let N = ended L.rest L.left in
          let s : declared_from 0 ts ≡ L.done = L.split ∙ ap (λ (y : List (Entry ℕ)). L.done ++ y) N.0
          ∙ append-nil L.done in
          record {
            names = L.names ∙ ap keys (sym s);
            states = L.states ∙ ap kinds (sym s);
            once = L.once ∙ ap (λ (y : List (Entry ℕ)). fresh (keys L.done) (keys y)) N.0 ∙ fresh-end (keys L.done);
            left = L.left ∙ ap some (sym (L.following ∙ N.1));
          };
    }
      where
        ended : (ts : List Token) → tokens (drop place t) ≡ some ts → (declared_from kind ts ≡ [])
            × (after_declared ts ≡ ts)
        ended ts q = on_bool (eqb code 0)
            (λ z. let n = none_left t place code from to D.token ts q z in
            (ap (declared_from kind) n ∙ nothing-declared kind, ap after_declared n ∙ nothing-following ∙ sym n))
            (λ z. let F = first t place code from to D.token ts q z in
            let k : declares (code_of F.token) ≡ false = ap declares
            (sym (token-code code (between t from to) F.token F.is)) ∙ h in (
              ap (declared_from kind) F.split ∙ declared-end kind F.token F.more k,
              ap after_declared F.split ∙ following-end F.token F.more k ∙
                  sym F.split,
            ))

    module _ {heads' words' links' st' : List ℕ} {good : Bool} {count' kind' : ℕ}
        (O : OneSays t size most count kind code from to heads heads' words words' links links' st st' good count'
        kind') where
      pub load-bad : good ≡ false → NotDeclared t at most
      load-bad g = on_bool (eqb code 15)
          (λ e. bad (eqb-true code 15 e))
          (λ e. absurd (never (sym (O.marked (eqb-false code 15 e)).0 ∙ g)))
        where
          bad : code ≡ 15 → NotDeclared t at most
          bad e = record {
            gives = λ ts q.
                let L = D.gives ts q in
                let T = this e L.rest L.left in
                let w = between t from to in
                let more = declared_from kind T.0 in
                let s : declared_from 0 ts ≡ L.done ++ entry w kind ∷ more = L.split
                ∙ ap (λ (y : List Token). L.done ++ declared_from kind y) T.1 ∙ ap
                (λ (y : List (Entry ℕ)). L.done ++ y) (declared-name kind w T.0) in
                let f : fresh [] (keys (declared_from 0 ts)) ≡ fresh (keys L.done) (w ∷ keys more) = L.once ∙ ap
                (λ (y : List (Entry ℕ)). fresh (keys L.done) (keys y))
                (ap (declared_from kind) T.1 ∙ declared-name kind w T.0) in
                let said = (O.named e).0.said in
                either_side (leb (count + 1) most) (eqb (found t words w count) 0) (sym said ∙ g)
                (λ full. let l : most < count + 1 = leb-false (count + 1) most full in
                let n = length-append L.done (entry w kind ∷ more) in
                let d : length (declared_from 0 ts) ≡ length (L.done ++ entry w kind ∷ more) = ap length s in
                right-false (fresh [] (keys (declared_from 0 ts))) (leb (length (declared_from 0 ts)) most)
                (lt-leb (length (declared_from 0 ts)) most (omega (arith, l, n, d, L.many))))
                (λ twice. let m : elem w (keys L.done) ≡ true = ap (elem w) (sym L.names)
                ∙ not-false (elem w (names_of t words count))
                (sym (found-elem t words w count) ∙ twice) in
                rw (f ∙ fresh-off (keys L.done) w (keys more) m));
          }

      pub load-on : declares code ≡ true → good ≡ true → length heads' ≡ length heads → length words' ≡ length words
          → length links' ≡ length links → length
          st' ≡ length st
          → most ≤ length words₀ → most ≤ length links₀ → most ≤ length st₀ → {code' from' to' : ℕ}
          → TokenAt t to code' from' to'
          → Declaring t at size most heads₀ words₀ links₀ st₀ heads' words' links' st' code' from' to' to count' kind'
      load-on h g lh lw ll ls mw ml ms {code'} {from'} {to'} A = on_bool (eqb code 15) (λ e. named (eqb-true code 15 e))
          (λ e. marked (eqb-false code 15 e))
        where
          marked : (code ≡ 15 → ⊥) → Declaring t at size most heads₀ words₀ links₀ st₀ heads' words' links' st' code'
              from' to' to count' kind'
          marked n =
              let M = O.marked n in
              rw (M.1, M.2, M.3, M.4, M.5, M.6) (record {
                token = A;
                names = D.names;
                few = D.few;
                headed = D.headed;
                worded = D.worded;
                linked = D.linked;
                stated = D.stated;
                gives = λ ts q.
                    let L = D.gives ts q in
                    let F = first t place code from to D.token L.rest L.left (declares-some code h) in
                    let c = token-code code (between t from to) F.token F.is in
                    let dm : declared_from kind L.rest ≡ declared_from (kind_after kind code) F.more
                    = ap (declared_from kind) F.split
                    ∙ declared-mark kind F.token F.more (λ z. n (c ∙ z)) (ap declares (sym c) ∙ h) ∙ ap
                    (λ (j : ℕ). declared_from (kind_after kind j) F.more) (sym c) in
                    record {
                      done = L.done;
                      rest = F.more;
                      left = F.left;
                      split = L.split ∙ ap (λ (y : List (Entry ℕ)). L.done ++ y) dm;
                      following = L.following ∙ ap after_declared F.split ∙ following-on F.token F.more
                          (ap declares (sym c) ∙ h);
                      names = L.names;
                      states = L.states;
                      once = L.once ∙ ap (λ (y : List (Entry ℕ)). fresh (keys L.done) (keys y)) dm;
                      many = L.many;
                    };
              })

          named : code ≡ 15 → Declaring t at size most heads₀ words₀ links₀ st₀ heads' words' links' st' code' from' to'
              to count' kind'
          named e =
              let N = O.named e in
              let B = both-sides (leb (count + 1) most) (eqb (found t words (between t from to) count) 0)
              (sym N.0.said ∙ g) in
              let room : count + 1 ≤ most = leb-true (count + 1) most B.0 in
              let Ad = N.0.added g in
              let fw : count < length words = omega (arith, room, mw, D.worded) in
              let fl : count < length links = omega (arith, room, ml, D.linked) in
              let fs : count < length st = omega (arith, room, ms, D.stated) in
              let w = between t from to in
              rw (N.1, N.2) (record {
                token = A;
                names = chained_more D.names Ad D.token.onward D.token.within fw fl;
                few = room;
                headed = lh ∙ D.headed;
                worded = lw ∙ D.worded;
                linked = ll ∙ D.linked;
                stated = ls ∙ D.stated;
                gives = λ ts q.
                    let L = D.gives ts q in
                    let T = this e L.rest L.left in
                    let dn : declared_from kind L.rest ≡ entry w kind ∷ declared_from kind T.0
                    = ap (declared_from kind) T.1 ∙ declared-name kind w T.0 in
                    let m : elem w (keys L.done) ≡ false = ap (elem w) (sym L.names)
                    ∙ not-true (elem w (names_of t words count))
                    (sym (found-elem t words w count) ∙ B.1) in
                    record {
                      done = L.done ++ entry w kind ∷ [];
                      rest = T.0;
                      left = T.2;
                      split = L.split ∙ ap (λ (y : List (Entry ℕ)). L.done ++ y) dn
                          ∙ sym (append_assoc L.done (entry w kind ∷ []) (declared_from kind T.0));
                      following = L.following ∙ ap after_declared T.1 ∙ following-on (name w) T.0 refl;
                      names = names-added D.names Ad D.token.onward D.token.within fw fl
                          ∙ ap (λ (y : List (List ℕ)). y ++ w ∷ []) L.names ∙ sym
                          (keys-snoc L.done (entry w kind));
                      states = ap (take (count + 1)) (N.0.state g) ∙ take-set st count kind fs
                          ∙ ap (λ (y : List ℕ). y ++ kind ∷ []) L.states ∙ sym
                          (kinds-snoc L.done (entry w kind));
                      once = L.once ∙ ap (λ (y : List (Entry ℕ)). fresh (keys L.done) (keys y)) dn
                          ∙ fresh_on (keys L.done) w (keys (declared_from kind T.0)) m
                          ∙ ap (λ (y : List (List ℕ)). fresh y (keys (declared_from kind T.0)))
                          (sym (keys-snoc L.done (entry w kind)));
                      many = length-snoc L.done (entry w kind) ∙ ap (λ (j : ℕ). j + 1) L.many;
                    };
              })
