-- Links in memory.
use Rattle.std.specs.Prelude.{List, map}
use Rattle.orb_base.specs.declared.mem_link.MemLink.{MemLink}
use Rattle.orb_base.specs.declared.mem_sink.MemSink.{MemSink}
use Rattle.orb_base.specs.declared.mem_source.MemSource.{MemSource}

-- the sources with their sinks
abbrev pub pairs : List MemLink → List (MemSource × MemSink)
pairs links = map (λ link. (link.source, link.sink)) links
