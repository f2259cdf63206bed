-- What the program has built so far, as plain trees.
use Rattle.std.specs.Prelude.{map}
use Rattle.servant_scripts.specs.declared.draft.Draft.{Draft}
use Rattle.servant_scripts.specs.Drafts as plain
use Rattle.servant_scripts.specs.Views.{scoped_of, said_of, saids_view, entries_view, says_view, method_of, servant_of}

-- what is built so far
abbrev pub draft_of : Draft → plain.Draft
draft_of d =
    record {
      places = d.places;
      unaries = d.unaries;
      binaries = d.binaries;
      waiting = d.waiting;
      names = map scoped_of d.names;
      phrases = map said_of d.phrases;
      lists = map saids_view d.lists;
      fields = map entries_view d.fields;
      blocks = map says_view d.blocks;
      methods = map method_of d.methods.items;
      servants = map servant_of d.servants.items;
    }
