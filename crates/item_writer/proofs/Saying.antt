-- Bytes that are written after others.
use Rattle.std.proofs.Common.{◌≡◌, ℕ, List, [], ◌++◌, refl, sym, ap, ◌∙◌, subst, append_assoc, append-nil}
use Rattle.orb_base.specs.Outside.{SinkState, Rose}
use Rattle.text_streams.specs.Streams.{WroteText, WroteSome, WroteFrontOf, WritesAll}
use Rattle.text_streams.specs.declared.writing.WriteAll.{WriteAll}
use Rattle.text_streams.specs.declared.writing.WriteAll.TheVariants.{Whole, Failed}
use Rattle.text_streams.proofs.CallerLemmas.{wrote_nothing, wrote_behind, wrote_all, wrote_same}

-- a count that rose after an equal one
rose_behind : (before mid after : ℕ) → mid ≡ before → Rose mid after → Rose before after
rose_behind before mid after same rose = subst (λ (n : ℕ). Rose n after) same rose

pub whole_both : (r : WriteAll) (a b : List ℕ) (o m n : SinkState) → WritesAll Whole a o m → WritesAll r b m n → WritesAll r (a ++ b) o n
whole_both Whole a b o m n x y = (wrote_behind a b o m n x.0 y.0, y.1 ∙ x.1)
whole_both Failed a b o m n x y = ((y.0.0, wrote_all a b y.0.0 o m n x.0 y.0.1), rose_behind o.faults m.faults n.faults x.1 y.1)

-- a prefix is one with more after it
front_more : (a b : List ℕ) (o m : SinkState) → WroteFrontOf a o m → WroteFrontOf (a ++ b) o m
front_more a b o m x = (x.0 ++ b, record { front = x.1.front; parts = ap (λ (z : List ℕ). z ++ b) x.1.parts ∙ append_assoc x.1.front x.0 b; wrote = x.1.wrote })

pub failed_first : (a b : List ℕ) (o m : SinkState) → WritesAll Failed a o m → WritesAll Failed (a ++ b) o m
failed_first a b o m x = (front_more a b o m x.0, x.1)

pub says_start : (o : SinkState) → WritesAll Whole [] o o
says_start o = (wrote_nothing o, refl)

-- a head with the start of a body, and then what is left of the body
pub whole_of_parts : (r : WriteAll) (head start rest body : List ℕ) (o n : SinkState) → body ≡ start ++ rest → WritesAll r ((head ++ start) ++ rest) o n → WritesAll r (head ++ body) o n
whole_of_parts r head start rest body o n parts x =
    subst (λ (z : List ℕ). WritesAll r z o n) (append_assoc head start rest ∙ ap (λ (z : List ℕ). head ++ z) (sym parts)) x
