-- What a dump makes of whole inputs, byte by byte.
use Rattle.std.proofs.Common.{◌≡◌, ℕ, List, [], ◌∷◌, Some, refl}
use Rattle.std.specs.Prelude.{codes, true, take}
use Rattle.std.specs.Fmt.{digits}
use Rattle.cdr_core.specs.Field.{number_bytes}
use Rattle.cdr_core.specs.Reading.{piece_at, number_of, number_at, count_at, octets_at, text_before_nul, string_at}
use Rattle.cdr_core.specs.Sequence.{times}
use Rattle.cdr_core.specs.Lists.{list_at}
use Rattle.giop_frames.specs.Pieces.{order_of, has_more, kind_of, piece_len, id_of, is_whole, cut}
use Rattle.giop_frames.specs.Messages.{is_fragment, opens, continues, cancels, ends, unfinished, sealed, completed}
use Rattle.giop_frames.specs.Kinds.{kind_by, comes_whole}
use Rattle.giop_frames.specs.Headers.{has_magic, has_version, header_at}
use Rattle.giop_frames.specs.Stream.{header_cause, same_order, fragment_cause, first_cause, piece_cause, tail_rest, rest_with, said_behind, stream}
use Rattle.giop_messages.specs.declared.refused.Fault.TheVariants.{Cut}
use Rattle.giop_messages.specs.MessageReading.{contexts_at, key_at, form_at, target_at, reserved_at, asked_at, request_at, located_at, kind_at, message_at}
use Rattle.giop_dump.specs.declared.dump_end.DumpEnd.TheVariants.{Done, Refused}
use Rattle.text_streams.specs.Shown.{is_plain, shown_octet, shown}
use Rattle.giop_dump.specs.Ending.{refusal, first_refusal, lines_before, dump_text, dump_ending}

-- the request of id 1 for `current` of `ping`
ping : List ℕ
ping =
    71 ∷ 73 ∷ 79 ∷ 80 ∷ 1 ∷ 2 ∷ 0 ∷ 0 ∷ 0 ∷ 0 ∷ 0 ∷ 36 ∷ 0 ∷ 0 ∷ 0 ∷ 1 ∷ 3 ∷ 0 ∷ 0 ∷ 0 ∷ 0 ∷ 0 ∷ 0 ∷ 0
    ∷ 0 ∷ 0 ∷ 0 ∷ 4 ∷ 112 ∷ 105 ∷ 110 ∷ 103 ∷ 0 ∷ 0 ∷ 0 ∷ 8 ∷ 99 ∷ 117 ∷ 114 ∷ 114 ∷ 101 ∷ 110 ∷ 116 ∷ 0 ∷ 0 ∷ 0 ∷ 0 ∷ 0 ∷ []

-- its line
ping_line : dump_text ping ≡ codes "0 Request big 48 id 1 flags 3 key ping op current contexts 0 body 0\n"
unfolding ping digits piece_at number_of number_at count_at octets_at text_before_nul string_at order_of has_more kind_of piece_len is_whole cut is_fragment completed has_magic has_version kind_by header_at header_cause comes_whole piece_cause said_behind stream times list_at contexts_at key_at form_at target_at reserved_at asked_at request_at kind_at message_at is_plain shown_octet shown lines_before dump_text
ping_line = refl

-- it ends as all input that is read to its end
ping_ends : dump_ending ping true ≡ Some Done
unfolding ping piece_at number_of number_at count_at octets_at text_before_nul string_at order_of has_more kind_of piece_len is_whole cut is_fragment opens unfinished completed has_magic has_version kind_by header_at header_cause comes_whole piece_cause tail_rest rest_with said_behind stream times list_at contexts_at key_at form_at target_at reserved_at asked_at request_at kind_at message_at first_refusal dump_ending
ping_ends = refl

-- its first 11 octets are cut
header_is_cut : dump_ending (take 11 ping) true ≡ Some (Refused (refusal 0 Cut))
unfolding ping is_whole cut unfinished tail_rest rest_with said_behind stream first_refusal dump_ending
header_is_cut = refl

-- a LocateReply
here_line : dump_text (71 ∷ 73 ∷ 79 ∷ 80 ∷ 1 ∷ 2 ∷ 0 ∷ 4 ∷ 0 ∷ 0 ∷ 0 ∷ 8 ∷ 0 ∷ 0 ∷ 0 ∷ 5 ∷ 0 ∷ 0 ∷ 0 ∷ 1 ∷ []) ≡ codes "0 LocateReply big 20 id 5 status 1\n"
unfolding digits piece_at number_of number_at order_of has_more kind_of piece_len is_whole cut is_fragment completed has_magic has_version kind_by header_at header_cause comes_whole piece_cause said_behind stream located_at kind_at message_at lines_before dump_text
here_line = refl

-- a request of id 1 in three pieces, with one of id 2 between them
interleaved : List ℕ
interleaved =
    71 ∷ 73 ∷ 79 ∷ 80 ∷ 1 ∷ 2 ∷ 2 ∷ 0 ∷ 0 ∷ 0 ∷ 0 ∷ 12 ∷ 0 ∷ 0 ∷ 0 ∷ 1 ∷ 3 ∷ 0 ∷ 0 ∷ 0 ∷ 0 ∷ 0 ∷ 0 ∷ 0
    ∷ 71 ∷ 73 ∷ 79 ∷ 80 ∷ 1 ∷ 2 ∷ 0 ∷ 0 ∷ 0 ∷ 0 ∷ 0 ∷ 36 ∷ 0 ∷ 0 ∷ 0 ∷ 2 ∷ 3 ∷ 0 ∷ 0 ∷ 0 ∷ 0 ∷ 0 ∷ 0 ∷ 0
    ∷ 0 ∷ 0 ∷ 0 ∷ 4 ∷ 112 ∷ 105 ∷ 110 ∷ 103 ∷ 0 ∷ 0 ∷ 0 ∷ 8 ∷ 99 ∷ 117 ∷ 114 ∷ 114 ∷ 101 ∷ 110 ∷ 116 ∷ 0 ∷ 0 ∷ 0 ∷ 0 ∷ 0
    ∷ 71 ∷ 73 ∷ 79 ∷ 80 ∷ 1 ∷ 2 ∷ 2 ∷ 7 ∷ 0 ∷ 0 ∷ 0 ∷ 20 ∷ 0 ∷ 0 ∷ 0 ∷ 1 ∷ 0 ∷ 0 ∷ 0 ∷ 4 ∷ 112 ∷ 105 ∷ 110 ∷ 103
    ∷ 0 ∷ 0 ∷ 0 ∷ 8 ∷ 99 ∷ 117 ∷ 114 ∷ 114 ∷ 71 ∷ 73 ∷ 79 ∷ 80 ∷ 1 ∷ 2 ∷ 0 ∷ 7 ∷ 0 ∷ 0 ∷ 0 ∷ 12 ∷ 0 ∷ 0 ∷ 0 ∷ 1
    ∷ 101 ∷ 110 ∷ 116 ∷ 0 ∷ 0 ∷ 0 ∷ 0 ∷ 0 ∷ []

-- their lines, at the offsets of the pieces that complete them
interleaved_lines : dump_text interleaved ≡ codes "24 Request big 48 id 2 flags 3 key ping op current contexts 0 body 0\n104 Request big 48 id 1 flags 3 key ping op current contexts 0 body 0\n"
unfolding interleaved digits number_bytes piece_at number_of number_at count_at octets_at text_before_nul string_at order_of has_more kind_of piece_len id_of is_whole cut is_fragment opens continues cancels ends unfinished sealed completed has_magic has_version kind_by header_at header_cause comes_whole same_order fragment_cause first_cause piece_cause said_behind stream times list_at contexts_at key_at form_at target_at reserved_at asked_at request_at kind_at message_at is_plain shown_octet shown lines_before dump_text
interleaved_lines = refl
