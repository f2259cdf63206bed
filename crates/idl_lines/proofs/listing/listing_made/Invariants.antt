-- The lines so far, and the listing of the things after, are the whole listing.
use Rattle.std.proofs.Common.{◌≡◌, ◌++◌, string_bytes, drop}
use Rattle.idl_types.specs.Contents.{things_of}
use Rattle.idl_lines.specs.Listing.{listing}
use Rattle.idl_lines.proofs.listing.listing_made.Given as goal

abbrev pub invariant-loop-at : goal.invariant-loop-at
invariant-loop-at l = string_bytes l.text ++ listing (drop l.at (things_of l.repository)) ≡ listing (things_of l.repository)
