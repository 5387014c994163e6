-- Assignments settled one after another.
use Prim.Native.Nat.{ℕ}
use mathlib.Core.Path.{◌≡◌, refl, sym, ap, ◌∙◌}
use mathlib.Core.Bool.{Bool, true, false, ◌&&◌}
use mathlib.Core.List.{List, [], ◌∷◌, ◌++◌, append_assoc}
use mathlib.Core.Option.{some}
use native.Mathlib.Omega.{arith}
use lib.ListN.{length, drop}
use Rattle.netlist.specs.Lists.{every, ascii}
use Rattle.netlist.proofs.Questions.{some_same}
use Rattle.verilog.specs.Tokens.{Token, name, mark, tokens}
use Rattle.verilog.specs.Syntax.{Assign, expr_tokens, assign_tokens, each_tokens}
use Rattle.verilog.specs.Rules.{expr_reads}
use Rattle.from_verilog.specs.Next.{token_of, between, TokenAt}
use Rattle.from_verilog.proofs.Firsts.{never, token-code}
use Rattle.from_verilog.specs.Wires.{wire_of}
use Rattle.from_verilog.proofs.Seating.{known, name-marked, same_name}
use Rattle.from_verilog.specs.Parts.{readable, names_pass, after_end, PartGives}
use Rattle.from_verilog.specs.Settled.{is_open, settled, TargetIs, Settled, settle, settle_all, unsettled, assigns_left}
use Rattle.from_verilog.specs.Settled.{AssignsIs}
use Rattle.from_verilog.proofs.Passing.{expr-pass, expr-following}

-- ---- all of them

pub spoilt : (t words : List ℕ) (n : ℕ) (xs : List Assign) (S : Settled) → S.good ≡ false
    → (settle_all t words n S xs).good ≡ false
spoilt t words n [] S e = e
spoilt t words n (a ∷ xs) S e = spoilt t words n xs (settle t words n S a) (rw e)

pub record Ahead (t words : List ℕ) (n : ℕ) (st₀ st : List ℕ) (place : ℕ) (xs : List Assign) (rest : List Token) : Type
    0 where
  pub more : List Assign
  pub left : tokens (drop place t) ≡ some (assigns_left more rest)
  pub same : settle_all t words n (unsettled st₀) xs ≡ settle_all t words n (unsettled st) more

pub record Settling (t words : List ℕ) (n at : ℕ) (st₀ st : List ℕ) (code to : ℕ) : Type 0 where
  pub place : ℕ
  pub start : ℕ
  pub token : TokenAt t place code start to
  pub stated : length st ≡ length st₀
  pub gives : (xs : List Assign) (rest : List Token) → tokens (drop at t) ≡ some (assigns_left xs rest)
      → Ahead t words n st₀ st place xs rest

-- the tokens of an assignment, after its first three
value-left : (a : Assign) (more : List Assign) (rest : List Token)
    → ((expr_tokens a.value ++ mark (ascii ";") ∷ []) ++ each_tokens assign_tokens more) ++ mark (ascii "endmodule") ∷
    rest ≡ expr_tokens a.value ++
    (mark (ascii ";") ∷ assigns_left more rest)
value-left a more rest =
    append_assoc (expr_tokens a.value ++ mark (ascii ";") ∷ []) (each_tokens assign_tokens more)
    (mark (ascii "endmodule") ∷ rest)
    ∙ append_assoc (expr_tokens a.value) (mark (ascii ";") ∷ [])
    (each_tokens assign_tokens more ++ mark (ascii "endmodule") ∷ rest)

end-pass : (p : List ℕ → Bool) (ts : List Token) → names_pass p (mark (ascii ";") ∷ ts) ≡ true
unfolding names_pass
end-pass p ts = refl

end-following : (ts : List Token) → after_end (mark (ascii ";") ∷ ts) ≡ ts
unfolding after_end
end-following ts = refl

and-true : (b : Bool) → (b && true) ≡ b
and-true true = refl
and-true false = refl

right-false : (a b : Bool) → b ≡ false → (a && b) ≡ false
right-false true b e = e
right-false false b e = refl

module _ {t words : List ℕ} {n at : ℕ} {st₀ : List ℕ} where
  module _ {st : List ℕ} {code to : ℕ} (S : Settling t words n at st₀ st code to) where
    pub settle-end : (code ≡ 5 → ⊥) → AssignsIs t words n at st₀ st true
    settle-end h = record {
      gives = λ xs rest e.
          let A = S.gives xs rest e in
          let q : settle_all t words n (unsettled st₀) xs ≡ unsettled st = A.same
          ∙ ap (settle_all t words n (unsettled st)) (none A.more rest A.left) in
          record { said = sym (ap (λ (X : Settled). X.good) q); states = λ g. sym (ap (λ (X : Settled). X.states) q) };
    }
      where
        none : (xs : List Assign) (rest : List Token) → tokens (drop S.place t) ≡ some (assigns_left xs rest) → xs ≡ []
        none [] rest e = refl
        none (a ∷ xs) rest e = absurd
            (h (token-code code (between t S.start to) (mark (ascii "assign"))
            (known S.token (mark (ascii "assign")) _ e).0))

    module _ (five : code ≡ 5) {cx fx tx cy fy ty : ℕ} (X : TokenAt t to cx fx tx) (Y : TokenAt t tx cy fy ty)
        {ok : Bool} {following : ℕ}
        (P : PartGives t (readable t words st n) ty ok following) where
      -- the assignment at this place
      record This (xs : List Assign) (rest : List Token) : Type 0 where
        is : Assign
        more : List Assign
        split : xs ≡ is ∷ more
        target : is.target ≡ between t fx tx
        reads : ok ≡ every (readable t words st n) (expr_reads is.value)
        left : ok ≡ true → tokens (drop following t) ≡ some (assigns_left more rest)

      this : (xs : List Assign) (rest : List Token) → tokens (drop S.place t) ≡ some (assigns_left xs rest)
          → This xs rest
      this [] rest e = let k = known S.token (mark (ascii "endmodule")) rest e in
          let z = sym five ∙ token-code code (between t S.start to) (mark (ascii "endmodule")) k.0
          in absurd (omega (arith, z))
      this (a ∷ more) rest e =
          let body = ((expr_tokens a.value ++ mark (ascii ";") ∷ []) ++ each_tokens assign_tokens more)
          ++ mark (ascii "endmodule") ∷ rest in
          let k₁ = known S.token (mark (ascii "assign")) (name a.target ∷ mark (ascii "=") ∷ body) e in
          let k₂ = known X (name a.target) (mark (ascii "=") ∷ body) k₁.1 in
          let k₃ = known Y (mark (ascii "=")) body k₂.1 in
          let c : cx ≡ 15 = token-code cx (between t fx tx) (name a.target) k₂.0 in
          let v : between t fx tx ≡ a.target = same_name (some_same (name (between t fx tx)) (name a.target)
          (sym (ap (λ (c : ℕ). token_of c (between t fx tx)) c ∙ name-marked (between t fx tx)) ∙ k₂.0)) in
          let p = readable t words st n in
          let us = mark (ascii ";") ∷ assigns_left more rest in
          let G = P.gives (expr_tokens a.value ++ us) (k₃.1 ∙ ap some (value-left a more rest)) in
          record {
            is = a;
            more = more;
            split = refl;
            target = sym v;
            reads = G.said ∙ expr-pass p a.value us ∙ ap (λ (b : Bool). every p (expr_reads a.value) && b)
                (end-pass p (assigns_left more rest)) ∙ and-true
                (every p (expr_reads a.value));
            left = λ g. G.left g ∙ ap some (expr-following p a.value us ∙ end-following (assigns_left more rest));
          }

      pub settle-unread : {st' : List ℕ} → ok ≡ false → AssignsIs t words n at st₀ st' false
      settle-unread g = record {
        gives = λ xs rest e.
            let A = S.gives xs rest e in
            let T = this A.more rest A.left in
            let a = T.is in
            let b : (settle t words n (unsettled st) a).good ≡ false
            = ap (λ (x : Bool). x && is_open (wire_of t words st n a.target)) (sym T.reads ∙ g) in
            record {
              said = sym (ap (λ (X : Settled). X.good) (A.same ∙ ap (settle_all t words n (unsettled st)) T.split)
                  ∙ spoilt t words n T.more
                  (settle t words n (unsettled st) a) b);
              states = λ z. absurd (never (sym z));
            };
      }

      module _ {st' : List ℕ} {good : Bool} (G : TargetIs t words n (between t fx tx) st st' good) where
        pub settle-closed : {st'' : List ℕ} → good ≡ false → AssignsIs t words n at st₀ st'' false
        settle-closed g = record {
          gives = λ xs rest e.
              let A = S.gives xs rest e in
              let T = this A.more rest A.left in
              let a = T.is in
              let o : is_open (wire_of t words st n a.target) ≡ false
              = ap (λ (x : List ℕ). is_open (wire_of t words st n x)) T.target ∙ sym G.said ∙ g in
              let b : (settle t words n (unsettled st) a).good ≡ false
              = right-false (every (readable t words st n) (expr_reads a.value))
              (is_open (wire_of t words st n a.target)) o in
              record {
                said = sym (ap (λ (X : Settled). X.good) (A.same ∙ ap (settle_all t words n (unsettled st)) T.split)
                    ∙ spoilt t words n T.more
                    (settle t words n (unsettled st) a) b);
                states = λ z. absurd (never (sym z));
              };
        }

        pub settle-on : ok ≡ true → good ≡ true → length st' ≡ length st → {code' start' to' : ℕ}
            → TokenAt t following code' start' to' → Settling t words n
            at st₀ st' code' to'
        settle-on g h l {code'} {start'} {to'} A' = record {
          place = following;
          start = start';
          token = A';
          stated = l ∙ S.stated;
          gives = λ xs rest e.
              let A = S.gives xs rest e in
              let T = this A.more rest A.left in
              let a = T.is in
              let o : is_open (wire_of t words st n a.target) ≡ true
              = ap (λ (x : List ℕ). is_open (wire_of t words st n x)) T.target ∙ sym G.said ∙ h in
              let q : (every (readable t words st n) (expr_reads a.value) && is_open (wire_of t words st n a.target))
              ≡ true = rw (sym T.reads ∙ g, o) in
              let w : settled t words st n a.target ≡ st' = ap (settled t words st n) T.target ∙ sym G.states in
              let k : settle t words n (unsettled st) a ≡ unsettled st' = λ i. record { good = q i; states = w i } in
              record {
                more = T.more;
                left = T.left g;
                same = A.same ∙ ap (settle_all t words n (unsettled st)) T.split
                    ∙ ap (λ (X : Settled). settle_all t words n X T.more) k;
              };
        }
