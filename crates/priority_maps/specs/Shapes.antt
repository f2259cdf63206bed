-- The map that the code keeps as one of its two kinds.
use Rattle.priority_maps.specs.Maps.{PriorityMap, linear, table}
use Rattle.priority_maps.specs.declared.map.Shape.{Shape}
use Rattle.priority_maps.specs.declared.map.Shape.TheVariants.{Linear, Table}

-- the map that is kept so
abbrev pub map_of : Shape → PriorityMap
map_of (Linear m) = linear m
map_of (Table rows) = table rows
