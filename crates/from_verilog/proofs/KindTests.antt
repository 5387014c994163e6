-- Tests of kinds of tokens, as tests of their numbers.
use Rattle.std.proofs.Common.{arith, ◌≡◌, ◌≤◌, refl, sym, ap₂, ◌∙◌, Bool, true, false, not}
use lib.Dec.{eqb}
use borrow.Author.Tests.{eqb-true, eqb-false}
use denote.Enum.Bare.{sameb, false_same}
use denote.Enum.Declared.{tag_of}
use Rattle.from_verilog.specs.contracts.tokens.Kind.{the_type}
use Rattle.from_verilog.specs.declared.tokens.Kind.{Kind}
use Rattle.from_verilog.specs.declared.tokens.Kind.TheVariants as K
use Rattle.from_verilog.specs.Kind.{number_of}

tag-number : (k : Kind) → tag_of the_type k ≡ number_of k
tag-number K.End = refl
tag-number K.Module = refl
tag-number K.Input = refl
tag-number K.Output = refl
tag-number K.Wire = refl
tag-number K.Assign = refl
tag-number K.EndModule = refl
tag-number K.Open = refl
tag-number K.Close = refl
tag-number K.Semicolon = refl
tag-number K.Comma = refl
tag-number K.Equals = refl
tag-number K.Not = refl
tag-number K.And = refl
tag-number K.Xor = refl
tag-number K.Name = refl
tag-number K.Other = refl

pub same_number : (a b : Kind) → sameb the_type a b ≡ eqb (number_of a) (number_of b)
same_number a b = ap₂ eqb (tag-number a) (tag-number b)

-- what `a == b` and `a != b` say where they hold, and where they do not
module _ (a b : Kind) where
  pub is_kind : true ≡ sameb the_type a b → eqb (number_of a) (number_of b) ≡ true
  is_kind e = sym (e ∙ same_number a b)

  pub no_kind : false ≡ sameb the_type a b → eqb (number_of a) (number_of b) ≡ false
  no_kind e = sym (e ∙ same_number a b)

  pub other_kind : true ≡ not (sameb the_type a b) → eqb (number_of a) (number_of b) ≡ false
  other_kind e = sym (same_number a b) ∙ not-true (sameb the_type a b) (sym e)
    where
      not-true : (t : Bool) → not t ≡ true → t ≡ false
      not-true true p = sym p
      not-true false p = refl

  pub this_kind : false ≡ not (sameb the_type a b) → eqb (number_of a) (number_of b) ≡ true
  this_kind e = sym (same_number a b) ∙ not-false (sameb the_type a b) (sym e)
    where
      not-false : (t : Bool) → not t ≡ false → t ≡ true
      not-false true p = refl
      not-false false p = sym p

  pub this_number : true ≡ sameb the_type a b → number_of a ≡ number_of b
  this_number e = eqb-true _ _ (is_kind e)

  pub other_number : false ≡ sameb the_type a b → number_of a ≡ number_of b → ⊥
  other_number e = eqb-false _ _ (no_kind e)

  pub unequal_number : true ≡ not (sameb the_type a b) → number_of a ≡ number_of b → ⊥
  unequal_number e = eqb-false _ _ (other_kind e)

  pub equal_number : false ≡ not (sameb the_type a b) → number_of a ≡ number_of b
  equal_number e = eqb-true _ _ (this_kind e)

  -- the same of the arms of a match
  pub differing : (a ≡ b → ⊥) → eqb (number_of a) (number_of b) ≡ false
  differing h = sym (same_number a b) ∙ false_same the_type tt a b h

  pub not_number : (a ≡ b → ⊥) → number_of a ≡ number_of b → ⊥
  not_number h = eqb-false _ _ (differing h)

pub number_low : (k : Kind) → number_of k ≤ 16
number_low K.End = omega arith
number_low K.Module = omega arith
number_low K.Input = omega arith
number_low K.Output = omega arith
number_low K.Wire = omega arith
number_low K.Assign = omega arith
number_low K.EndModule = omega arith
number_low K.Open = omega arith
number_low K.Close = omega arith
number_low K.Semicolon = omega arith
number_low K.Comma = omega arith
number_low K.Equals = omega arith
number_low K.Not = omega arith
number_low K.And = omega arith
number_low K.Xor = omega arith
number_low K.Name = omega arith
number_low K.Other = omega arith
