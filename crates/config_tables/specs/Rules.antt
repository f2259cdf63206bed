-- The words in which the keys of a table are described: own profile.
use Rattle.std.specs.Prelude.{ℕ, List}

-- a condition on another key of the same table: it is, lacks, says this word, is true
pub data Condition : Type 0 where
  stands : List ℕ → Condition
  lacks : List ℕ → Condition
  says : List ℕ → List ℕ → Condition
  is_on : List ℕ → Condition

-- whether a key has to be there: always, at will, exactly under a condition, or where another key is
pub data Need : Type 0 where
  due : Need
  free : Need
  exactly_where : Condition → Need
  along_with : List ℕ → Need

-- what a key holds: a text of so many bytes without a NUL, one of some words, a truth value, a number from one to another, a
-- 32-bit number with a sign
pub data Scalar : Type 0 where
  text : ℕ → ℕ → Scalar
  word : List (List ℕ) → Scalar
  truth : Scalar
  number : ℕ → ℕ → Scalar
  native : Scalar

-- a key, whether it has to be there, and what it holds
pub record Rule (K : Type 0) : Type 0 where
  pub key : List ℕ
  pub need : Need
  pub kind : K

-- a scalar; so many tables, judged at this key by rules of their own; a table, or so many of them, judged after the keys
-- of the table that they are in
pub data Kind : Type 0 where
  one : Scalar → Kind
  entries : ℕ → ℕ → List (Rule Scalar) → Kind
  section : Kind
  sections : ℕ → ℕ → Kind

-- a line of a description
abbrev pub key_of : {K : Type 0} → List ℕ → Need → K → Rule K
key_of key need kind = record { key = key; need = need; kind = kind }
