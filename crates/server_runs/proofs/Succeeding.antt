-- Runs that followed each other: the headline of each, the links of each slot, and how many there are.
use Rattle.std.proofs.Common.{◌≡◌, ◌∙◌, ◌+◌, ◌-◌, ◌<◌, ◌≤◌, ℕ, Bool, true, false, true≢false, List, [], ◌∷◌, ◌++◌, length, map, refl, sym, ap, subst, inl, inr, arith, append_assoc, ltb-false}
use Rattle.std.specs.Prelude.{◌&&◌, ◌⊎◌, nat_lt, option_map, Option, Some, None}
use Rattle.std.specs.List.{list_any}
use Rattle.orb_base.specs.JobRecord.{JobRecord}
use Rattle.orb_base.specs.Links.{AcceptorState}
use Rattle.orb_base.specs.Outside.{SourceState, SinkState}
use Rattle.orb_base.specs.declared.outcome.Outcome.{Outcome}
use Rattle.adapter_policies.specs.SetupData.{SetupData}
use Rattle.lane_machine.specs.Histories.{History}
use Rattle.link_slots.specs.Slots.{HandsOut}
use Rattle.orb_server.specs.Runs.{Slot, SlotRan, SlotsRan}
use Rattle.orb_server.specs.Slots.{links_of}
use Rattle.orb_server.specs.declared.run.Run.{Run}
use Rattle.server_runs.specs.Plans.{after_one, goes_on, may_go_on}
use Rattle.server_runs.specs.Serving.{Ran, RanRuns}
use Rattle.server_runs.specs.Successive.{Holds, AllHold, TakesIn, Takes, TakesFirst, AllTakeFirst, LastIsSpent, EndsInPlan}
use Rattle.server_runs.specs.declared.run_plan.RunPlan.{RunPlan}
use Rattle.server_runs.specs.declared.serve_end.ServeEnd.{ServeEnd}
use Rattle.server_runs.specs.declared.serve_end.ServeEnd.TheVariants.{Done, NoMemory}
use Rattle.server_runs.proofs.Completing.{slots_complete}
use Rattle.server_runs.proofs.Going.{goes_more}

by_bool : {P : Type 0} (b : Bool) → (b ≡ true → P) → (b ≡ false → P) → P
by_bool true at_true at_false = at_true refl
by_bool false at_true at_false = at_false refl

-- ---- counts

one_left : (left : ℕ) → 1 < left → 1 ≤ left - 1
one_left left more = omega (arith, more)

module _ {X : Type 0} where
  one_fits : (x : X) (left : ℕ) → 1 ≤ left → length (x ∷ []) ≤ left
  one_fits x left some = omega (arith, some)

  one_more : (x : X) (xs : List X) (left : ℕ) → 1 < left → length xs ≤ left - 1 → length (x ∷ xs) ≤ left
  one_more x xs left more few = omega (arith, more, few)

  all_of : (x : X) (xs : List X) (left : ℕ) → 1 < left → length xs ≡ left - 1 → length (x ∷ xs) ≡ left
  all_of x xs left more is = omega (arith, more, is)

  one_alone : (x : X) (left : ℕ) → 1 ≤ left → nat_lt 1 left ≡ false → length (x ∷ []) ≡ left
  one_alone x left some none = let few = ltb-false 1 left none in omega (arith, some, few)

and_false : (a b : Bool) → (a && b) ≡ false → (a ≡ false) ⊎ (b ≡ false)
and_false true b e = inr e
and_false false b e = inl refl

module _ {I O : Type 0} where
  -- no other run follows one whose lines were written whole
  rested : (run : Run I O) (left : ℕ) → 1 ≤ left → goes_on Done left run.slots.items ≡ false → (length (run ∷ []) ≡ left) ⊎ LastIsSpent (run ∷ [])
  rested run left some e = elim (and_false (nat_lt 1 left) (list_any may_go_on run.slots.items) e) [
    | inl none ↦ inl (one_alone run left some none)
    | inr spent ↦ inr spent
  ]

  last_of_more : (run : Run I O) (runs : List (Run I O)) → LastIsSpent runs → LastIsSpent (run ∷ runs)
  last_of_more run [] spent = absurd spent
  last_of_more run (next ∷ runs) spent = spent

  after_more : (run : Run I O) (runs : List (Run I O)) (left : ℕ) → 1 < left → (length runs ≡ left - 1) ⊎ LastIsSpent runs
      → (length (run ∷ runs) ≡ left) ⊎ LastIsSpent (run ∷ runs)
  after_more run runs left more (inl all) = inl (all_of run runs left more all)
  after_more run runs left more (inr spent) = inr (last_of_more run runs spent)

-- ---- links

module _ {L : Type 0} where
  mapped : (xs ys : List L) (o : Option (List L)) → option_map (λ rest. xs ++ rest) (option_map (λ rest. ys ++ rest) o) ≡ option_map (λ rest. (xs ++ ys) ++ rest) o
  mapped xs ys (Some rest) = ap Some (sym (append_assoc xs ys rest))
  mapped xs ys None = refl

  unmapped : (o : Option (List L)) → o ≡ option_map (λ rest. [] ++ rest) o
  unmapped (Some rest) = refl
  unmapped None = refl

module _ {A I O : Type 0} (state : A → AcceptorState I O) (source : I → SourceState) (sink : O → SinkState)
    (setup : SetupData) where
  -- a slot takes nothing where no run was made
  none_taken : (slot : ℕ) (xs : List A) → AllTakeFirst state source sink setup slot [] xs xs
  none_taken slot [] = tt
  none_taken slot (a ∷ xs) = (record { links = []; takes = (refl, refl); first = unmapped (state a).links }, none_taken (slot + 1) xs)

  one_taken : (slot : ℕ) (run : Run I O) (runs : List (Run I O)) (s : Slot A I O) (b : A) → SlotRan state source sink setup run.history.items slot s
      → TakesFirst state source sink setup slot runs s.behind b → TakesFirst state source sink setup slot (run ∷ runs) s.before b
  one_taken slot run runs s b ran on = record {
    links = links_of ran.cs ++ on.links;
    takes = (links_of ran.cs, on.links, s.behind, record { it = s; from = refl; to = refl; ran = ran; links_are = refl }, on.takes, refl);
    first = ran.serves.links ∙ ap (option_map (λ rest. links_of ran.cs ++ rest)) on.first ∙ mapped (links_of ran.cs) on.links (state b).links;
  }

  -- one run more, before the others
  more_taken : (slot : ℕ) (run : Run I O) (runs : List (Run I O)) (ss : List (Slot A I O)) (bs : List A) → SlotsRan state source sink setup run.history.items slot ss
      → AllTakeFirst state source sink setup slot runs (map (λ (s : Slot A I O). s.behind) ss) bs
      → AllTakeFirst state source sink setup slot (run ∷ runs) (map (λ (s : Slot A I O). s.before) ss) bs
  more_taken slot run runs [] [] ran on = tt
  more_taken slot run runs [] (b ∷ bs) ran on = absurd on
  more_taken slot run runs (s ∷ ss) [] ran on = absurd on
  more_taken slot run runs (s ∷ ss) (b ∷ bs) ran on = (one_taken slot run runs s b ran.0 on.0, more_taken (slot + 1) run runs ss bs ran.1 on.1)

  module _ (outcome : List ℕ → JobRecord → Outcome) where
    run_taken : (run : Run I O) (runs : List (Run I O)) (before between behind : List A) → Ran state source sink setup outcome run before between
        → AllTakeFirst state source sink setup 0 runs between behind → AllTakeFirst state source sink setup 0 (run ∷ runs) before behind
    run_taken run runs before between behind ran on =
        subst (λ (xs : List A). AllTakeFirst state source sink setup 0 (run ∷ runs) xs behind) (sym ran.slots.before_are)
        (more_taken 0 run runs ran.slots.slots behind ran.slots.ran
        (subst (λ (xs : List A). AllTakeFirst state source sink setup 0 runs xs behind) ran.slots.behind_are on))

    last_taken : (run : Run I O) (runs : List (Run I O)) (before between behind : List A) → Ran state source sink setup outcome run before between
        → runs ≡ [] → behind ≡ between → AllTakeFirst state source sink setup 0 (run ∷ runs) before behind
    last_taken run runs before between behind ran none same =
        run_taken run runs before between behind ran
        (subst (λ (rs : List (Run I O)). AllTakeFirst state source sink setup 0 rs between behind) (sym none)
        (subst (λ (xs : List A). AllTakeFirst state source sink setup 0 [] between xs) (sym same) (none_taken 0 between)))

    pub all_taken : (plan : RunPlan) (end : ServeEnd) (runs : List (Run I O)) (before behind : List A) (out out' : SinkState)
        → RanRuns state source sink setup outcome plan end runs before behind out out' → AllTakeFirst state source sink setup 0 runs before behind
    all_taken plan end [] before behind out out' h =
        subst (λ (xs : List A). AllTakeFirst state source sink setup 0 [] before xs) (sym h.1) (none_taken 0 before)
    all_taken plan end (run ∷ runs) before behind out out' (between, mid, wrote, ran, lines, goes, ends) =
        by_bool (goes_on wrote plan.runs run.slots.items)
        (λ e. run_taken run runs before between behind ran (all_taken (after_one plan) end runs between behind mid out' (goes e)))
        (λ e. last_taken run runs before between behind ran (ends e).1 (ends e).2)

    -- ---- the headline

    holds : (run : Run I O) (before behind : List A) → Ran state source sink setup outcome run before behind → Holds state source sink setup outcome run
    holds run before behind ran = record {
      before = before;
      behind = behind;
      ran = ran;
      complete = λ well. slots_complete state source sink setup run.history.items 0 ran.slots.slots well ran.slots.ran;
    }

    pub all_hold : (plan : RunPlan) (end : ServeEnd) (runs : List (Run I O)) (before behind : List A) (out out' : SinkState)
        → RanRuns state source sink setup outcome plan end runs before behind out out' → AllHold state source sink setup outcome runs
    all_hold plan end [] before behind out out' h = tt
    all_hold plan end (run ∷ runs) before behind out out' (between, mid, wrote, ran, lines, goes, ends) =
        by_bool (goes_on wrote plan.runs run.slots.items)
        (λ e. (holds run before between ran, all_hold (after_one plan) end runs between behind mid out' (goes e)))
        (λ e. (holds run before between ran, subst (λ (rs : List (Run I O)). AllHold state source sink setup outcome rs) (sym (ends e).1) tt))

    -- ---- how many there are

    pub no_more_than_planned : (plan : RunPlan) (end : ServeEnd) (runs : List (Run I O)) (before behind : List A) (out out' : SinkState) → 1 ≤ plan.runs
        → RanRuns state source sink setup outcome plan end runs before behind out out' → length runs ≤ plan.runs
    no_more_than_planned plan end [] before behind out out' some h = omega arith
    no_more_than_planned plan end (run ∷ runs) before behind out out' some (between, mid, wrote, ran, lines, goes, ends) =
        by_bool (goes_on wrote plan.runs run.slots.items)
        (λ e.
        let left = goes_more wrote plan.runs run.slots.items e in
        let few = no_more_than_planned (after_one plan) end runs between behind mid out' (one_left plan.runs left) (goes e) in
        one_more run runs plan.runs left few)
        (λ e. subst (λ (rs : List (Run I O)). length (run ∷ rs) ≤ plan.runs) (sym (ends e).1) (one_fits run plan.runs some))

    pub as_planned : (plan : RunPlan) (end : ServeEnd) (runs : List (Run I O)) (before behind : List A) (out out' : SinkState) → 1 ≤ plan.runs
        → RanRuns state source sink setup outcome plan end runs before behind out out' → end ≡ Done → (length runs ≡ plan.runs) ⊎ LastIsSpent runs
    as_planned plan end [] before behind out out' some h done = let no : Done ≡ NoMemory = sym done ∙ h.0 in absurd (cc)
    as_planned plan end (run ∷ runs) before behind out out' some (between, mid, wrote, ran, lines, goes, ends) done =
        by_bool (goes_on wrote plan.runs run.slots.items)
        (λ e.
        let left = goes_more wrote plan.runs run.slots.items e in
        after_more run runs plan.runs left (as_planned (after_one plan) end runs between behind mid out' (one_left plan.runs left) (goes e) done))
        (λ e.
        subst (λ (rs : List (Run I O)). (length (run ∷ rs) ≡ plan.runs) ⊎ LastIsSpent (run ∷ rs)) (sym (ends e).1)
        (rested run plan.runs some (subst (λ (w : ServeEnd). goes_on w plan.runs run.slots.items ≡ false) (sym (ends e).0 ∙ done) e)))

    pub in_plan : (plan : RunPlan) (end : ServeEnd) (runs : List (Run I O)) (before behind : List A) (out out' : SinkState) → 1 ≤ plan.runs
        → RanRuns state source sink setup outcome plan end runs before behind out out' → EndsInPlan plan end runs
    in_plan plan end runs before behind out out' some h = record {
      few = no_more_than_planned plan end runs before behind out out' some h;
      spent = as_planned plan end runs before behind out out' some h;
    }
