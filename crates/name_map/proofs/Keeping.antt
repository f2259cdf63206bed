-- Changes keep a list of bindings a map.
use Rattle.std.proofs.Common.{◌≡◌, ℕ, zero, suc, ◌+◌, ◌<◌, ◌≤◌, Bool, true, false, List, [], ◌∷◌, length, bytes_eq, if◌then◌else◌, ap, sym, refl, subst, ◌∙◌, arith}
use Rattle.std.proofs.lemmas.Bool.{true≢false}
use Rattle.turn_cell.specs.Numbers.{Each}
use Rattle.name_map.specs.declared.binding.Binding.{Binding}
use Rattle.name_map.specs.Keys.{is_below, Below}
use Rattle.name_map.specs.Bindings.{binding, Rises, find, has, put, out}
use Rattle.name_map.specs.Places.{place, is_there}
use Rattle.name_map.proofs.Order.{else_above, same_key}
use Rattle.name_map.proofs.Placing.{if_true, if_false}
use Rattle.name_map.proofs.Changing.{by_test, put_low, put_high, there_low, there_high, later_above}

-- a fact of each binding and of the new one
pub each_put : (P : Binding → Type 0) (key target : List ℕ) (bs : List Binding) → P (binding key target) → Each P bs → Each P (put key target bs)
each_put P key target [] p h = (p, tt)
each_put P key target (b ∷ bs) p h = by_test (is_below b.key key)
    (λ e. subst (Each P) (sym (put_low key target b bs e)) (h.0, each_put P key target bs p h.1))
    (λ e. subst (Each P) (sym (put_high key target b bs e)) (by_test (bytes_eq b.key key)
    (λ s. subst (Each P) (sym (if_true (bytes_eq b.key key) (binding key target ∷ bs) (binding key target ∷ b ∷ bs) s)) (p, h.1))
    (λ d. subst (Each P) (sym (if_false (bytes_eq b.key key) (binding key target ∷ bs) (binding key target ∷ b ∷ bs) d)) (p, h))))

pub rises_put : (key target : List ℕ) (bs : List Binding) → Rises bs → Rises (put key target bs)
rises_put key target [] r = (tt, tt)
rises_put key target (b ∷ bs) r = by_test (is_below b.key key)
    (λ e. subst Rises (sym (put_low key target b bs e)) (each_put (λ c. Below b.key c.key) key target bs e r.0, rises_put key target bs r.1))
    (λ e. subst Rises (sym (put_high key target b bs e)) (by_test (bytes_eq b.key key)
    (λ s. subst Rises (sym (if_true (bytes_eq b.key key) (binding key target ∷ bs) (binding key target ∷ b ∷ bs) s)) (later_above key b bs r.0 e, r.1))
    (λ d. subst Rises (sym (if_false (bytes_eq b.key key) (binding key target ∷ bs) (binding key target ∷ b ∷ bs) d)) ((else_above b.key key e d, later_above key b bs r.0 e), r))))

-- a new key makes the list one longer
pub length_put_new : (key target : List ℕ) (bs : List Binding) → is_there key bs ≡ false → length (put key target bs) ≡ suc (length bs)
length_put_new key target [] n = refl
length_put_new key target (b ∷ bs) n = by_test (is_below b.key key)
    (λ e. ap length (put_low key target b bs e) ∙ ap suc (length_put_new key target bs (sym (there_low key b bs e) ∙ n)))
    (λ e. ap length (put_high key target b bs e ∙ if_false (bytes_eq b.key key) (binding key target ∷ bs) (binding key target ∷ b ∷ bs) (sym (there_high key b bs e) ∙ n)))

-- an old one leaves it as long
pub length_put_old : (key target : List ℕ) (bs : List Binding) → is_there key bs ≡ true → length (put key target bs) ≡ length bs
length_put_old key target [] n = absurd (true≢false (sym n))
length_put_old key target (b ∷ bs) n = by_test (is_below b.key key)
    (λ e. ap length (put_low key target b bs e) ∙ ap suc (length_put_old key target bs (sym (there_low key b bs e) ∙ n)))
    (λ e. ap length (put_high key target b bs e ∙ if_true (bytes_eq b.key key) (binding key target ∷ bs) (binding key target ∷ b ∷ bs) (sym (there_high key b bs e) ∙ n)))

-- a fact of each binding holds of each that is left
pub each_out : (P : Binding → Type 0) (key : List ℕ) (bs : List Binding) → Each P bs → Each P (out key bs)
each_out P key [] h = tt
each_out P key (b ∷ bs) h = by_test (bytes_eq b.key key)
    (λ s. subst (Each P) (sym (if_true (bytes_eq b.key key) (out key bs) (b ∷ out key bs) s)) (each_out P key bs h.1))
    (λ d. subst (Each P) (sym (if_false (bytes_eq b.key key) (out key bs) (b ∷ out key bs) d)) (h.0, each_out P key bs h.1))

pub rises_out : (key : List ℕ) (bs : List Binding) → Rises bs → Rises (out key bs)
rises_out key [] r = tt
rises_out key (b ∷ bs) r = by_test (bytes_eq b.key key)
    (λ s. subst Rises (sym (if_true (bytes_eq b.key key) (out key bs) (b ∷ out key bs) s)) (rises_out key bs r.1))
    (λ d. subst Rises (sym (if_false (bytes_eq b.key key) (out key bs) (b ∷ out key bs) d)) (each_out (λ c. Below b.key c.key) key bs r.0, rises_out key bs r.1))

pub length_out : (key : List ℕ) (bs : List Binding) → length (out key bs) ≤ length bs
length_out key [] = omega arith
length_out key (b ∷ bs) = let l = length_out key bs in by_test (bytes_eq b.key key)
    (λ s. let a = ap length (if_true (bytes_eq b.key key) (out key bs) (b ∷ out key bs) s) in omega arith)
    (λ d. let a = ap length (if_false (bytes_eq b.key key) (out key bs) (b ∷ out key bs) d) in omega arith)
