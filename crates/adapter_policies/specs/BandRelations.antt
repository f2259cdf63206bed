-- What holds of the bands of a configuration's adapters, and of the rows of their transforms: own profile.
use Rattle.std.specs.Prelude.{ℕ, ◌&&◌, Bool, not, nat_le, nat_lt, List, [], Option, None, position, if◌then◌else◌}
use Rattle.std.specs.List.{list_any}
use Rattle.config_tables.specs.Fault.{Fault, first_of}
use Rattle.config_tables.specs.declared.fault.ConfigCause.TheVariants.{BandEmpty, BandOverlap, BandWithoutLane}
use Rattle.adapter_policies.specs.Found.{adapters_fault, bands_path, entry_fault, first_clash, inbound_path}
use Rattle.adapter_policies.specs.Tables.{AdapterSaid, PoolSaid}
use Rattle.adapter_policies.specs.declared.band.BandTable.{BandTable}
use Rattle.adapter_policies.specs.declared.inbound.InboundTable.{InboundTable}

-- the band of a row
abbrev pub band_of_row : InboundTable → BandTable
band_of_row row = record { low = row.low; high = row.high }

-- a band's low end isn't above its high one
abbrev pub is_reversed : BandTable → Bool
is_reversed b = nat_lt b.high b.low

-- the same of a row
abbrev pub is_row_reversed : InboundTable → Bool
is_row_reversed row = is_reversed (band_of_row row)

-- the first band of the adapter of a number whose ends are reversed, and then the first such row
unfoldable pub ends_fault : ℕ → AdapterSaid → Option Fault
ends_fault n a =
    first_of (entry_fault (bands_path n) BandEmpty (position is_reversed a.bands))
    (entry_fault (inbound_path n) BandEmpty (position is_row_reversed a.inbound))

-- the first band or row whose ends are reversed
abbrev pub band_empty_fault : List AdapterSaid → Option Fault
band_empty_fault adapters = adapters_fault ends_fault 0 adapters

-- no two bands of an adapter share a priority
abbrev pub share_one : BandTable → BandTable → Bool
share_one a b = nat_le a.low b.high && nat_le b.low a.high

-- no two rows of a transform do
abbrev pub rows_share_one : InboundTable → InboundTable → Bool
rows_share_one a b = share_one (band_of_row a) (band_of_row b)

-- the first band of the adapter of a number that shares a priority with an earlier one, and then the first such row
unfoldable pub shares_fault : ℕ → AdapterSaid → Option Fault
shares_fault n a =
    first_of (entry_fault (bands_path n) BandOverlap (first_clash share_one [] 0 a.bands))
    (entry_fault (inbound_path n) BandOverlap (first_clash rows_share_one [] 0 a.inbound))

-- the first band or row that shares a priority with an earlier one of its list
abbrev pub overlap_fault : List AdapterSaid → Option Fault
overlap_fault adapters = adapters_fault shares_fault 0 adapters

-- with lanes, each band holds the priority of one
abbrev pub holds_lane : PoolSaid → BandTable → Bool
holds_lane pool b = list_any (λ l. nat_le b.low l.priority && nat_le l.priority b.high) pool.lanes

-- the number of the first of these bands that holds no lane's priority
abbrev pub without_lane : PoolSaid → List BandTable → Option ℕ
without_lane pool bands = if pool.laned then position (λ b. not (holds_lane pool b)) bands else None

-- the first band of the adapter of a number that holds no lane's priority
unfoldable pub outside_fault : PoolSaid → ℕ → AdapterSaid → Option Fault
outside_fault pool n a = entry_fault (bands_path n) BandWithoutLane (without_lane pool a.bands)

-- the first band that holds no lane's priority
abbrev pub band_without_lane_fault : PoolSaid → List AdapterSaid → Option Fault
band_without_lane_fault pool adapters = adapters_fault (outside_fault pool) 0 adapters
