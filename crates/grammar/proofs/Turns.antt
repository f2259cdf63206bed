-- A rule that is read several times, as a loop does.
use Rattle.std.proofs.Common.{◌≡◌, ℕ, zero, suc, ◌+◌, ◌-◌, ◌<◌, ◌≤◌, Bool, true, false, length, Ok, Err, refl, sym, ap, ◌∙◌, arith}
use Rattle.grammar.specs.declared.builder.ReadError.{ReadError}
use Rattle.grammar.specs.declared.builder.ReadError.TheVariants.{Refused, NoMemory}
use Rattle.grammar.specs.Rules.{many}
use Rattle.grammar.specs.Language.{Language, RuleOf}
use Rattle.grammar.specs.Reading.{State, Reads, ◌>>=◌, front, begins, repeated, read_rule}
use Rattle.grammar.specs.Gives.{Refuses}

-- the turns that are left
abbrev pub turns : (g : Language) → ℕ → ℕ → RuleOf g → State g → Reads g
turns g n depth r s = repeated g n (begins g r) (read_rule g depth r) s

pub many_is : (g : Language) (depth : ℕ) (r : RuleOf g) (s : State g) → read_rule g depth (many r) s ≡ turns g (length s.1.tokens + 1) depth r s
unfolding read_rule
many_is g depth r s = refl

pub turn_on : (g : Language) (depth n i : ℕ) (r : RuleOf g) (s t : State g) (total : Reads g) → i < n → begins g r (front s.1).kind ≡ true → read_rule g depth r s ≡ Ok t
    → turns g (n - i) depth r s ≡ total → turns g (n - (i + 1)) depth r t ≡ total
unfolding repeated
turn_on g depth n i r s t total lt begun read so_far =
    let k : n - i ≡ suc (n - (i + 1)) = omega arith in
    let one : turns g (n - i) depth r s ≡ turns g (n - (i + 1)) depth r t = rw (k, begun, read) refl in
    sym one ∙ so_far

pub turn_fails : (g : Language) (e : ReadError g.Fault) (depth n i : ℕ) (r : RuleOf g) (s : State g) (total : Reads g) → i < n → begins g r (front s.1).kind ≡ true → Refuses e (read_rule g depth r s)
    → turns g (n - i) depth r s ≡ total → Refuses e total
unfolding repeated
turn_fails g NoMemory depth n i r s total lt begun read so_far = tt
turn_fails g (Refused f) depth n i r s total lt begun read so_far =
    let k : n - i ≡ suc (n - (i + 1)) = omega arith in
    let one : turns g (n - i) depth r s ≡ Err f = rw (k, begun, read) refl in
    sym so_far ∙ one

pub turns_stop : (g : Language) (depth n i : ℕ) (r : RuleOf g) (s : State g) (total : Reads g) → i < n → begins g r (front s.1).kind ≡ false → turns g (n - i) depth r s ≡ total → total ≡ Ok s
unfolding repeated
turns_stop g depth n i r s total lt over so_far =
    let k : n - i ≡ suc (n - (i + 1)) = omega arith in
    let one : turns g (n - i) depth r s ≡ Ok s = rw (k, over) refl in
    sym so_far ∙ one

pub turns_done : (g : Language) (depth n i : ℕ) (r : RuleOf g) (s : State g) (total : Reads g) → n ≤ i → turns g (n - i) depth r s ≡ total → total ≡ Ok s
unfolding repeated
turns_done g depth n i r s total le so_far =
    let k : n - i ≡ 0 = omega arith in
    let one : turns g (n - i) depth r s ≡ Ok s = rw k refl in
    sym so_far ∙ one
