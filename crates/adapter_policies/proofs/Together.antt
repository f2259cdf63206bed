-- A configuration without a fault holds together.
use Rattle.std.proofs.Common.{◌≡◌, ◌≢◌, ◌<◌, ◌≤◌, ◌+◌, ◌*◌, ◌==◌, ℕ, zero, suc, Bool, true, false, not, ◌&&◌, List, [], ◌∷◌, length, get_or, map, Option, Some, None, refl, sym, subst, arith, nat_lt, nat_le, is_some, codes}
use Rattle.std.specs.List.{All, AllPairs, Any, list_any, position}
use Rattle.std.specs.Option.{IfSome, IsSome}
use Rattle.std.proofs.lemmas.Bool.Decides.{nat_tests}
use Rattle.std.proofs.lemmas.List.{nil_from_length}
use Rattle.std.proofs.lemmas.List.Elements.{All-cons, All-nil}
use Rattle.std.proofs.lemmas.List.Folds.{Any-from_list_any, list_any_none}
use Rattle.std.proofs.lemmas.Slice.Eq.{bytes_eq-Decides}
use Rattle.orb_base.specs.Apart.{are_apart, overlap}
use Rattle.orb_base.specs.Span.{Span}
use Rattle.orb_base.specs.declared.priority_model.PriorityModel.{PriorityModel}
use Rattle.orb_base.specs.declared.priority_model.PriorityModel.TheVariants.{ClientPropagated, ServerDeclared}
use Rattle.priority_maps.specs.Maps.{PriorityMap, to_native}
use Rattle.toml.specs.Data.{Members}
use Rattle.config_tables.specs.Fault.{Fault, first_of}
use Rattle.config_tables.specs.Keys.{same_text}
use Rattle.config_tables.specs.declared.fault.ConfigCause.{ConfigCause}
use Rattle.config_tables.specs.declared.fault.ConfigCause.TheVariants.{LaneOrder, NoThread, TooManyThreads, SlotLimit, BorrowWithoutLanes, BadMap, BandEmpty, BandOverlap, Duplicate, UnknownAdapter, PriorityNotAllowed, PriorityNotALane, NoNative, BandWithoutLane, TransformNotAllowed}
use Rattle.config_tables.proofs.RulesHold.{and_both, both_none}
use Rattle.adapter_policies.specs.BandRelations.{band_empty_fault, band_without_lane_fault, ends_fault, holds_lane, is_reversed, is_row_reversed, outside_fault, overlap_fault, rows_share_one, share_one, shares_fault, without_lane}
use Rattle.adapter_policies.specs.Configuration.{Configures, first_fault, levels_fault, links_fault, parts_fault, relations_fault}
use Rattle.adapter_policies.specs.Document.{DocumentSaid, document_fault, document_of}
use Rattle.adapter_policies.specs.Found.{adapter_key, adapters_fault, bands_path, entry_fault, entry_key_fault, fault_where, first_clash, inbound_path}
use Rattle.adapter_policies.specs.Lawful.{BandsHold, HoldsTogether, IsServed, LevelsHold, MayHaveOwn, NamesHold, PartsHold, PoolHolds, TransformHolds}
use Rattle.adapter_policies.specs.MapRelations.{has_native, is_lawful, map_fault, priority_map}
use Rattle.adapter_policies.specs.NameRelations.{duplicate_fault, is_named, is_stray, is_too_many, not_allowed_fault, propagates, same_key, same_name, unknown_adapter_fault}
use Rattle.adapter_policies.specs.PoolRelations.{borrowing_fault, is_idle, lane_order_fault, no_thread_fault, out_of_order, per_slot_of, pool_threads, slot_limit_fault, slots_of, thread_count_fault}
use Rattle.adapter_policies.specs.PriorityRelations.{has_lane, level_fault, no_native_fault, not_a_lane_fault, own_meets, pool_native_fault, unmet_fault}
use Rattle.adapter_policies.specs.SetupData.{SetupData, adapter_made, object_made, span_of}
use Rattle.adapter_policies.specs.Tables.{AdapterSaid, MapSaid, PoolSaid}
use Rattle.adapter_policies.specs.TransformRelations.{has_idle_transform, has_rows, transform_not_allowed_fault}
use Rattle.adapter_policies.specs.declared.band.BandTable.{BandTable}
use Rattle.adapter_policies.specs.declared.inbound.InboundTable.{InboundTable}
use Rattle.adapter_policies.specs.declared.lane.LaneTable.{LaneTable}
use Rattle.adapter_policies.specs.declared.object.ObjectTable.{ObjectTable}
use Rattle.adapter_policies.specs.declared.object_spec.ObjectSpec.{ObjectSpec}
use Rattle.adapter_policies.proofs.NoneFound.{no_entry, no_key, none_at, none_clash, none_pass, nowhere, rises}

not_false : (b : Bool) → not b ≡ false → b ≡ true
not_false true h = refl
not_false false h = absurd (cc)

not_true : (b : Bool) → not b ≡ true → b ≡ false
not_true false h = refl
not_true true h = absurd (cc)

any_as : {X : Type 0} {P Q : X → Type 0} (xs : List X) → ((x : X) → P x → Q x) → Any P xs → Any Q xs
any_as xs to (k, x, within, at, p) = (k, x, within, at, to x p)

-- ---- the pool

threads_there : (statics dynamics : ℕ) → (statics == 0 && dynamics == 0) ≡ false → 0 < statics + dynamics
threads_there zero zero h = absurd (cc)
threads_there zero (suc d) h = omega arith
threads_there (suc s) d h = omega arith

at_most : (a b : ℕ) → nat_lt a b ≡ false → b ≤ a
at_most a b h = grind (arith, nat_tests)

whole_there : (pool : PoolSaid) → (not pool.laned && (pool.statics == 0 && pool.dynamics == 0)) ≡ false → pool.laned ≡ false → 0 < pool.statics + pool.dynamics
whole_there pool h whole = threads_there pool.statics pool.dynamics (rw whole at h)

lends_lanes : (borrowing laned : Bool) → (borrowing && not laned) ≡ false → borrowing ≡ true → laned ≡ true
lends_lanes b true h on = refl
lends_lanes true false h on = absurd (cc)
lends_lanes false false h on = absurd (cc)

busy_lane : (l : LaneTable) → is_idle l ≡ false → 0 < l.statics + l.dynamics
busy_lane l h = threads_there l.statics l.dynamics h

pool_holds : (pool : PoolSaid) → lane_order_fault pool ≡ None → no_thread_fault pool ≡ None → thread_count_fault pool ≡ None → borrowing_fault pool ≡ None → PoolHolds pool
pool_holds pool order threads count lending =
    let idle : Option ℕ = position is_idle pool.lanes in
    let empty : Bool = not pool.laned && (pool.statics == 0 && pool.dynamics == 0) in
    let each = both_none (entry_fault (codes "pool.lanes") NoThread idle) (fault_where empty (codes "pool") NoThread) threads in
    let busy = none_at is_idle pool.lanes (no_entry (codes "pool.lanes") NoThread idle each.0) in
    record {
      rising = rises (map (λ l. l.priority) pool.lanes) (no_key (codes "pool.lanes") (codes "priority") LaneOrder (out_of_order None 0 (map (λ l. l.priority) pool.lanes)) order);
      staffed = λ k d h. busy_lane (get_or pool.lanes k d) (busy k d h);
      staffed_whole = whole_there pool (nowhere empty (codes "pool") NoThread each.1);
      few = at_most 64 (pool_threads pool) (nowhere (nat_lt 64 (pool_threads pool)) (codes "pool") TooManyThreads count);
      lends = lends_lanes pool.borrowing pool.laned (nowhere (pool.borrowing && not pool.laned) (codes "pool.borrowing") BorrowWithoutLanes lending);
    }

map_holds : (found : Option MapSaid) → map_fault found ≡ None → IfSome found (λ m. is_lawful m ≡ true)
map_holds None none = tt
map_holds (Some m) none = not_false (is_lawful m) (nowhere (not (is_lawful m)) (codes "map") BadMap none)

parts_hold : (d : DocumentSaid) → parts_fault d ≡ None → PartsHold d
unfolding parts_fault
parts_hold d none =
    let lending : Option Fault = first_of (borrowing_fault d.pool) (map_fault d.mapping) in
    let slots : Option Fault = first_of (slot_limit_fault d.server) lending in
    let count : Option Fault = first_of (thread_count_fault d.pool) slots in
    let a = both_none (lane_order_fault d.pool) (first_of (no_thread_fault d.pool) count) none in
    let b = both_none (no_thread_fault d.pool) count a.1 in
    let c = both_none (thread_count_fault d.pool) slots b.1 in
    let e = both_none (slot_limit_fault d.server) lending c.1 in
    let f = both_none (borrowing_fault d.pool) (map_fault d.mapping) e.1 in
    let wide : Bool = nat_lt 128 (slots_of d.server * per_slot_of d.server) in
    record {
      pool = pool_holds d.pool a.0 b.0 c.0 f.0;
      slots = at_most 128 (slots_of d.server * per_slot_of d.server) (nowhere wide (codes "server") SlotLimit e.0);
      mapping = map_holds d.mapping f.1;
    }

-- ---- bands

-- no adapter is at fault
abbrev IsFine : (ℕ → AdapterSaid → Option Fault) → AdapterSaid → Type 0
IsFine fault a = (n : ℕ) × (fault n a ≡ None)

no_adapter : (fault : ℕ → AdapterSaid → Option Fault) (n : ℕ) (adapters : List AdapterSaid) → adapters_fault fault n adapters ≡ None → All (IsFine fault) adapters
no_adapter fault n [] none = All-nil _
no_adapter fault n (a ∷ more) none =
    let parts = both_none (fault n a) (adapters_fault fault (n + 1) more) none in
    All-cons (IsFine fault) a more (n, parts.0) (no_adapter fault (n + 1) more parts.1)

-- an adapter has no band and no row whose ends are reversed
ends_none : (n : ℕ) (a : AdapterSaid) → ends_fault n a ≡ None → (position is_reversed a.bands ≡ None) × (position is_row_reversed a.inbound ≡ None)
unfolding ends_fault
ends_none n a none =
    let band : Option ℕ = position is_reversed a.bands in
    let row : Option ℕ = position is_row_reversed a.inbound in
    let parts = both_none (entry_fault (bands_path n) BandEmpty band) (entry_fault (inbound_path n) BandEmpty row) none in
    (no_entry (bands_path n) BandEmpty band parts.0, no_entry (inbound_path n) BandEmpty row parts.1)

-- an adapter has no band and no row that shares a priority with an earlier one
shares_none : (n : ℕ) (a : AdapterSaid) → shares_fault n a ≡ None → (first_clash share_one [] 0 a.bands ≡ None) × (first_clash rows_share_one [] 0 a.inbound ≡ None)
unfolding shares_fault
shares_none n a none =
    let band : Option ℕ = first_clash share_one [] 0 a.bands in
    let row : Option ℕ = first_clash rows_share_one [] 0 a.inbound in
    let parts = both_none (entry_fault (bands_path n) BandOverlap band) (entry_fault (inbound_path n) BandOverlap row) none in
    (no_entry (bands_path n) BandOverlap band parts.0, no_entry (inbound_path n) BandOverlap row parts.1)

-- an adapter has no band outside the lanes
outside_none : (pool : PoolSaid) (n : ℕ) (a : AdapterSaid) → outside_fault pool n a ≡ None → without_lane pool a.bands ≡ None
unfolding outside_fault
outside_none pool n a none = no_entry (bands_path n) BandWithoutLane (without_lane pool a.bands) none

holds_of : (pool : PoolSaid) (b : BandTable) → not (holds_lane pool b) ≡ false → Any (λ l. (b.low ≤ l.priority) × (l.priority ≤ b.high)) pool.lanes
holds_of pool b h = any_as pool.lanes (λ l both. ends l.priority (and_both _ _ both)) (Any-from_list_any _ pool.lanes (not_false _ h))
  where
    ends : (p : ℕ) → (nat_le b.low p ≡ true) × (nat_le p b.high ≡ true) → (b.low ≤ p) × (p ≤ b.high)
    ends p h = (grind (arith, nat_tests, h), grind (arith, nat_tests, h))

within_lanes : (pool : PoolSaid) (bands : List BandTable) → without_lane pool bands ≡ None → pool.laned ≡ true
    → All (λ b. Any (λ l. (b.low ≤ l.priority) × (l.priority ≤ b.high)) pool.lanes) bands
within_lanes pool bands none laned =
    let found = rw laned at none in
    λ k d h. holds_of pool _ (none_at (λ b. not (holds_lane pool b)) bands found k d h)

bands_hold : (pool : PoolSaid) (bands : List BandTable) → position is_reversed bands ≡ None → first_clash share_one [] 0 bands ≡ None → without_lane pool bands ≡ None → BandsHold pool bands
bands_hold pool bands empty overlap lane = record {
  ordered = λ k d h. at_most (get_or bands k d).high (get_or bands k d).low (none_at is_reversed bands empty k d h);
  apart = none_clash share_one bands overlap;
  within = within_lanes pool bands lane;
}

-- ---- names

names_differ : (a b : List ℕ) → same_text a b ≡ false → a ≢ b
names_differ a b h same = let e = (bytes_eq-Decides a b).1 same in absurd (cc)

there_of : (adapters : List AdapterSaid) (o : ObjectTable) → is_stray adapters o ≡ false → Any (λ a. a.name ≡ o.adapter) adapters
there_of adapters o h =
    any_as adapters (λ a same. (bytes_eq-Decides a.name o.adapter).0 same) (Any-from_list_any (is_named o.adapter) adapters (not_false _ h))

declares : (m : PriorityModel) → propagates m ≡ false → m ≡ ServerDeclared
declares ServerDeclared h = refl
declares ClientPropagated h = absurd (cc)

second_false : (a b : Bool) → (a && b) ≡ false → a ≡ true → b ≡ false
second_false true b h is = h
second_false false b h is = absurd (cc)

own_of : (adapters : List AdapterSaid) (o : ObjectTable) → is_too_many adapters o ≡ false → MayHaveOwn adapters o
own_of adapters o h has =
    let allows : AdapterSaid → Bool = λ a. is_named o.adapter a && propagates a.model in
    let none : list_any allows adapters ≡ false = second_false (is_some o.priority) (list_any allows adapters) h has in
    λ k d within same. declares (get_or adapters k d).model
    (second_false (is_named o.adapter (get_or adapters k d)) (propagates (get_or adapters k d).model) (none_pass allows adapters none k d within)
    ((bytes_eq-Decides (get_or adapters k d).name o.adapter).1 same))

names_apart : (adapters : List AdapterSaid) → first_clash same_name [] 0 adapters ≡ None → AllPairs (λ a b. a.name ≢ b.name) adapters
names_apart adapters none = λ i j d less within. names_differ (get_or adapters i d).name (get_or adapters j d).name (none_clash same_name adapters none i j d less within)

keys_apart : (objects : List ObjectTable) → first_clash same_key [] 0 objects ≡ None → AllPairs (λ a b. a.key ≢ b.key) objects
keys_apart objects none = λ i j d less within. names_differ (get_or objects i d).key (get_or objects j d).key (none_clash same_key objects none i j d less within)

names_hold : (adapters : List AdapterSaid) (objects : List ObjectTable) → duplicate_fault adapters objects ≡ None → unknown_adapter_fault adapters objects ≡ None
    → not_allowed_fault adapters objects ≡ None → NamesHold adapters objects
names_hold adapters objects twice unknown own =
    let names : Option ℕ = first_clash same_name [] 0 adapters in
    let keys : Option ℕ = first_clash same_key [] 0 objects in
    let each = both_none (entry_key_fault (codes "adapter") (codes "name") Duplicate names) (entry_key_fault (codes "object") (codes "key") Duplicate keys) twice in
    let stray = none_at (is_stray adapters) objects (no_key (codes "object") (codes "adapter") UnknownAdapter (position (is_stray adapters) objects) unknown) in
    let many = none_at (is_too_many adapters) objects (no_key (codes "object") (codes "priority") PriorityNotAllowed (position (is_too_many adapters) objects) own) in
    record {
      names = names_apart adapters (no_key (codes "adapter") (codes "name") Duplicate names each.0);
      keys = keys_apart objects (no_key (codes "object") (codes "key") Duplicate keys each.1);
      there = λ k d h. there_of adapters (get_or objects k d) (stray k d h);
      own = λ k d h. own_of adapters (get_or objects k d) (many k d h);
    }

-- ---- priorities

lane_of : (pool : PoolSaid) (p : ℕ) → has_lane pool p ≡ true → pool.laned ≡ true → Any (λ l. l.priority ≡ p) pool.lanes
lane_of pool p has laned =
    let any : list_any (λ l. l.priority == p) pool.lanes ≡ true = rw laned at has in
    any_as pool.lanes (λ l same. grind (arith, nat_tests, same)) (Any-from_list_any (λ l. l.priority == p) pool.lanes any)

served : (m : PriorityMap) (pool : PoolSaid) (p : ℕ) → has_lane pool p ≡ true → has_native m p ≡ true → IsServed m pool p
served m pool p lane native = record { native = native; lane = lane_of pool p lane }

own_served : (m : PriorityMap) (pool : PoolSaid) (p : Option ℕ) → own_meets (has_lane pool) p ≡ true → own_meets (has_native m) p ≡ true → IfSome p (IsServed m pool)
own_served m pool None lane native = tt
own_served m pool (Some p) lane native = served m pool p lane native

-- the priority of an adapter, and those that the rows of its transform give, meet a test
record LevelsMeet (test : ℕ → Bool) (a : AdapterSaid) : Type 0 where
  own : test a.priority ≡ true
  rows : All (λ row. test row.to ≡ true) a.inbound

levels_meet : (cause : ConfigCause) (test : ℕ → Bool) (n : ℕ) (a : AdapterSaid) → level_fault cause test n a ≡ None → LevelsMeet test a
unfolding level_fault
levels_meet cause test n a none =
    let found : Option ℕ = position (λ row. not (test row.to)) a.inbound in
    let path : List ℕ = adapter_key n (codes "priority") in
    let each = both_none (fault_where (not (test a.priority)) path cause) (entry_key_fault (inbound_path n) (codes "to") cause found) none in
    let of_rows = none_at (λ row. not (test row.to)) a.inbound (no_key (inbound_path n) (codes "to") cause found each.1) in
    record {
      own = not_false (test a.priority) (nowhere (not (test a.priority)) path cause each.0);
      rows = λ k d h. not_false (test (get_or a.inbound k d).to) (of_rows k d h);
    }

record Met (test : ℕ → Bool) (adapters : List AdapterSaid) (objects : List ObjectTable) : Type 0 where
  adapters_meet : All (LevelsMeet test) adapters
  objects_meet : All (λ o. own_meets test o.priority ≡ true) objects

met : (cause : ConfigCause) (test : ℕ → Bool) (adapters : List AdapterSaid) (objects : List ObjectTable) → unmet_fault cause test adapters objects ≡ None → Met test adapters objects
met cause test adapters objects none =
    let second : Option ℕ = position (λ o. not (own_meets test o.priority)) objects in
    let each = both_none (adapters_fault (level_fault cause test) 0 adapters) (entry_key_fault (codes "object") (codes "priority") cause second) none in
    let of_adapters = no_adapter (level_fault cause test) 0 adapters each.0 in
    let of_objects = none_at (λ o. not (own_meets test o.priority)) objects (no_key (codes "object") (codes "priority") cause second each.1) in
    record {
      adapters_meet = λ k d h. levels_meet cause test (of_adapters k d h).0 (get_or adapters k d) (of_adapters k d h).1;
      objects_meet = λ k d h. not_false (own_meets test (get_or objects k d).priority) (of_objects k d h);
    }

rows_served : (m : PriorityMap) (pool : PoolSaid) (a : AdapterSaid) → LevelsMeet (has_lane pool) a → LevelsMeet (has_native m) a → All (λ row. IsServed m pool row.to) a.inbound
rows_served m pool a lane native = λ k d h. served m pool (get_or a.inbound k d).to (lane.rows k d h) (native.rows k d h)

whole_native : (m : PriorityMap) (pool : PoolSaid) → (not pool.laned && not (has_native m pool.priority)) ≡ false → pool.laned ≡ false → IsSome (to_native m pool.priority)
whole_native m pool h whole = not_false (has_native m pool.priority) (rw whole at h)

-- the levels hold, and the priorities that rows give are served
record LevelsAndRows (d : DocumentSaid) : Type 0 where
  levels : LevelsHold d
  rows : All (λ a. All (λ row. IsServed (priority_map d.mapping) d.pool row.to) a.inbound) d.adapters

levels_hold : (d : DocumentSaid) → not_a_lane_fault d.pool d.adapters d.objects ≡ None → no_native_fault (priority_map d.mapping) d.pool d.adapters d.objects ≡ None → LevelsAndRows d
unfolding not_a_lane_fault no_native_fault pool_native_fault
levels_hold d lane native =
    let m : PriorityMap = priority_map d.mapping in
    let missing : Option ℕ = position (λ l. not (has_native m l.priority)) d.pool.lanes in
    let whole : Bool = not d.pool.laned && not (has_native m d.pool.priority) in
    let at_lanes : Option Fault = entry_key_fault (codes "pool.lanes") (codes "priority") NoNative missing in
    let at_pool : Option Fault = fault_where whole (codes "pool.default_priority") NoNative in
    let pool = both_none (first_of at_lanes at_pool) (unmet_fault NoNative (has_native m) d.adapters d.objects) native in
    let natives = both_none at_lanes at_pool pool.0 in
    let in_lanes = met PriorityNotALane (has_lane d.pool) d.adapters d.objects lane in
    let mapped = met NoNative (has_native m) d.adapters d.objects pool.1 in
    let of_lanes = none_at (λ l. not (has_native m l.priority)) d.pool.lanes (no_key (codes "pool.lanes") (codes "priority") NoNative missing natives.0) in
    record {
      levels = record {
        lanes = λ k x h. not_false (has_native m (get_or d.pool.lanes k x).priority) (of_lanes k x h);
        whole = whole_native m d.pool (nowhere whole (codes "pool.default_priority") NoNative natives.1);
        adapters = λ k x h. served m d.pool (get_or d.adapters k x).priority (in_lanes.adapters_meet k x h).own (mapped.adapters_meet k x h).own;
        objects = λ k x h. own_served m d.pool (get_or d.objects k x).priority (in_lanes.objects_meet k x h) (mapped.objects_meet k x h);
      };
      rows = λ k x h. rows_served m d.pool (get_or d.adapters k x) (in_lanes.adapters_meet k x h) (mapped.adapters_meet k x h);
    }

-- ---- transforms

same_number : (a b : ℕ) → (a == b) ≡ true → a ≡ b
same_number a b h = grind (arith, nat_tests)

may_have : (model : PriorityModel) (rows : List InboundTable) → (not (propagates model) && has_rows rows) ≡ false → rows ≢ [] → model ≡ ClientPropagated
may_have ClientPropagated rows h some = refl
may_have ServerDeclared rows h some = absurd (some (nil_from_length rows (same_number (length rows) 0 (not_false (length rows == 0) h))))

transform_holds : (m : PriorityMap) (pool : PoolSaid) (a : AdapterSaid) → has_idle_transform a ≡ false → position is_row_reversed a.inbound ≡ None
    → first_clash rows_share_one [] 0 a.inbound ≡ None → All (λ row. IsServed m pool row.to) a.inbound → TransformHolds m pool a
transform_holds m pool a idle empty overlap served = record {
  allowed = may_have a.model a.inbound idle;
  ordered = λ k d h. at_most (get_or a.inbound k d).high (get_or a.inbound k d).low (none_at is_row_reversed a.inbound empty k d h);
  apart = none_clash rows_share_one a.inbound overlap;
  served = served;
}

-- ---- all together

-- where no relation fails, everything holds together
pub holds_together : (d : DocumentSaid) → relations_fault d ≡ None → HoldsTogether d
unfolding relations_fault links_fault levels_fault
holds_together d none =
    let at_transforms : Option Fault = transform_not_allowed_fault d.adapters in
    let at_bands : Option Fault = first_of (band_without_lane_fault d.pool d.adapters) at_transforms in
    let at_natives : Option Fault = first_of (no_native_fault (priority_map d.mapping) d.pool d.adapters d.objects) at_bands in
    let at_levels : Option Fault = first_of (not_a_lane_fault d.pool d.adapters d.objects) at_natives in
    let at_own : Option Fault = first_of (not_allowed_fault d.adapters d.objects) at_levels in
    let at_unknown : Option Fault = first_of (unknown_adapter_fault d.adapters d.objects) at_own in
    let at_twice : Option Fault = first_of (duplicate_fault d.adapters d.objects) at_unknown in
    let at_overlaps : Option Fault = first_of (overlap_fault d.adapters) at_twice in
    let a = both_none (parts_fault d) (first_of (band_empty_fault d.adapters) at_overlaps) none in
    let ends = both_none (band_empty_fault d.adapters) at_overlaps a.1 in
    let overlaps = both_none (overlap_fault d.adapters) at_twice ends.1 in
    let twice = both_none (duplicate_fault d.adapters d.objects) at_unknown overlaps.1 in
    let unknown = both_none (unknown_adapter_fault d.adapters d.objects) at_own twice.1 in
    let own = both_none (not_allowed_fault d.adapters d.objects) at_levels unknown.1 in
    let lane = both_none (not_a_lane_fault d.pool d.adapters d.objects) at_natives own.1 in
    let native = both_none (no_native_fault (priority_map d.mapping) d.pool d.adapters d.objects) at_bands lane.1 in
    let last = both_none (band_without_lane_fault d.pool d.adapters) at_transforms native.1 in
    let empty = no_adapter ends_fault 0 d.adapters ends.0 in
    let overlap = no_adapter shares_fault 0 d.adapters overlaps.0 in
    let within = no_adapter (outside_fault d.pool) 0 d.adapters last.0 in
    let idle = none_at has_idle_transform d.adapters (no_key (codes "adapter") (codes "inbound") TransformNotAllowed (position has_idle_transform d.adapters) last.1) in
    let levels = levels_hold d lane.0 native.0 in
    record {
      parts = parts_hold d a.0;
      bands = λ k x h. bands_hold d.pool (get_or d.adapters k x).bands (ends_none (empty k x h).0 (get_or d.adapters k x) (empty k x h).1).0
          (shares_none (overlap k x h).0 (get_or d.adapters k x) (overlap k x h).1).0 (outside_none d.pool (within k x h).0 (get_or d.adapters k x) (within k x h).1);
      names = names_hold d.adapters d.objects twice.0 unknown.0 own.0;
      levels = levels.levels;
      transforms = λ k x h. transform_holds (priority_map d.mapping) d.pool (get_or d.adapters k x) (idle k x h)
          (ends_none (empty k x h).0 (get_or d.adapters k x) (empty k x h).1).1 (shares_none (overlap k x h).0 (get_or d.adapters k x) (overlap k x h).1).1 (levels.rows k x h);
    }

-- the same of a whole document
pub no_fault_holds : (ms : Members) → first_fault ms ≡ None → HoldsTogether (document_of ms)
no_fault_holds ms none = holds_together (document_of ms) (both_none (document_fault ms) (relations_fault (document_of ms)) none).1

-- ---- bands of a setup

apart_of : (bands : List Span) → AllPairs (λ a b. overlap a b ≡ false) bands → are_apart bands ≡ true
unfolding are_apart
apart_of [] pairs = refl
apart_of (band ∷ bands) pairs =
    let none : list_any (overlap band) bands ≡ false = list_any_none (overlap band) bands (λ k d h. pairs 0 (suc k) d (omega arith) (omega arith)) in
    let rest : are_apart bands ≡ true = apart_of bands (λ i j d less within. pairs (suc i) (suc j) d (omega arith) (omega arith)) in
    rw (none, rest) refl

pairs_made : (bands : List BandTable) → AllPairs (λ a b. share_one a b ≡ false) bands → AllPairs (λ a b. overlap a b ≡ false) (map span_of bands)
pairs_made [] pairs = λ i j d less within. absurd (omega arith)
pairs_made (b ∷ bands) pairs =
    let rest = pairs_made bands (λ i j d less within. pairs (suc i) (suc j) d (omega arith) (omega arith)) in
    pair_of b bands pairs rest
  where
    front : (b : BandTable) (bands : List BandTable) → ((k : ℕ) (d : BandTable) → k < length bands → share_one b (get_or bands k d) ≡ false) → (k : ℕ) (d : Span) → k < length (map span_of bands)
        → overlap (span_of b) (get_or (map span_of bands) k d) ≡ false
    front b [] each k d h = absurd (omega arith)
    front b (x ∷ xs) each zero d h = each 0 x (omega arith)
    front b (x ∷ xs) each (suc k) d h = front b xs (λ j e w. each (suc j) e (omega arith)) k d (omega arith)

    pair_of : (b : BandTable) (bands : List BandTable) → AllPairs (λ a c. share_one a c ≡ false) (b ∷ bands) → AllPairs (λ a c. overlap a c ≡ false) (map span_of bands)
        → (i j : ℕ) (d : Span) → i < j → j < length (map span_of (b ∷ bands)) → overlap (get_or (map span_of (b ∷ bands)) i d) (get_or (map span_of (b ∷ bands)) j d) ≡ false
    pair_of b bands pairs rest i zero d less within = absurd (omega arith)
    pair_of b bands pairs rest zero (suc j) d less within = front b bands (λ k e h. pairs 0 (suc k) e (omega arith) (omega arith)) j d (omega arith)
    pair_of b bands pairs rest (suc i) (suc j) d less within = rest i j d (omega arith) (omega arith)

adapters_apart : (pool : PoolSaid) (adapters : List AdapterSaid) → All (λ a. BandsHold pool a.bands) adapters → All (λ a. are_apart a.bands ≡ true) (map adapter_made adapters)
adapters_apart pool [] each = All-nil _
adapters_apart pool (a ∷ more) each =
    All-cons (λ x. are_apart x.bands ≡ true) (adapter_made a) (map adapter_made more)
    (apart_of (map span_of a.bands) (pairs_made a.bands (each 0 a (omega arith)).apart))
    (adapters_apart pool more (λ k d h. each (suc k) d (omega arith)))

-- the bands of each adapter of a configuration are apart
pub bands_apart : (bytes : List ℕ) (setup : SetupData) → Configures bytes setup → All (λ a. are_apart a.bands ≡ true) setup.adapters
bands_apart bytes setup configured =
    let held = no_fault_holds configured.document configured.lawful in
    let d : DocumentSaid = document_of configured.document in
    subst (λ (s : SetupData). All (λ a. are_apart a.bands ≡ true) s.adapters) (sym configured.meaning) (adapters_apart d.pool d.adapters held.bands)

-- ---- keys of a setup

-- objects keep their keys
keys_made : (adapters : List AdapterSaid) (objects : List ObjectTable) → AllPairs (λ a b. a.key ≢ b.key) objects → AllPairs (λ a b. a.key ≢ b.key) (map (object_made adapters) objects)
keys_made adapters [] pairs = λ i j d less within. absurd (omega arith)
keys_made adapters (o ∷ objects) pairs =
    let rest = keys_made adapters objects (λ i j d less within. pairs (suc i) (suc j) d (omega arith) (omega arith)) in
    pair_of adapters o objects pairs rest
  where
    front : (adapters : List AdapterSaid) (o : ObjectTable) (objects : List ObjectTable) → ((k : ℕ) (d : ObjectTable) → k < length objects → o.key ≢ (get_or objects k d).key) → (k : ℕ) (d : ObjectSpec) → k < length (map (object_made adapters) objects)
        → (object_made adapters o).key ≢ (get_or (map (object_made adapters) objects) k d).key
    front adapters o [] each k d h = absurd (omega arith)
    front adapters o (x ∷ xs) each zero d h = each 0 x (omega arith)
    front adapters o (x ∷ xs) each (suc k) d h = front adapters o xs (λ j e w. each (suc j) e (omega arith)) k d (omega arith)

    pair_of : (adapters : List AdapterSaid) (o : ObjectTable) (objects : List ObjectTable) → AllPairs (λ a b. a.key ≢ b.key) (o ∷ objects) → AllPairs (λ a b. a.key ≢ b.key) (map (object_made adapters) objects)
        → (i j : ℕ) (d : ObjectSpec) → i < j → j < length (map (object_made adapters) (o ∷ objects))
        → (get_or (map (object_made adapters) (o ∷ objects)) i d).key ≢ (get_or (map (object_made adapters) (o ∷ objects)) j d).key
    pair_of adapters o objects pairs rest i zero d less within = absurd (omega arith)
    pair_of adapters o objects pairs rest zero (suc j) d less within = front adapters o objects (λ k e h. pairs 0 (suc k) e (omega arith) (omega arith)) j d (omega arith)
    pair_of adapters o objects pairs rest (suc i) (suc j) d less within = rest i j d (omega arith) (omega arith)

-- the objects of a configuration have different keys
pub configured_keys : (bytes : List ℕ) (setup : SetupData) → Configures bytes setup → AllPairs (λ a b. a.key ≢ b.key) setup.objects
configured_keys bytes setup configured =
    let held = no_fault_holds configured.document configured.lawful in
    let d : DocumentSaid = document_of configured.document in
    subst (λ (s : SetupData). AllPairs (λ a b. a.key ≢ b.key) s.objects) (sym configured.meaning) (keys_made d.adapters d.objects held.names.keys)
