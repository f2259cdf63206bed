use Rattle.std.proofs.Common.{◌≡◌, bytes_eq, drop, encode_utf8_all}
use Rattle.value_json.proofs.texts.is_text_of.Given as goal

abbrev pub invariant-loop-code : goal.invariant-loop-code
invariant-loop-code l = bytes_eq (encode_utf8_all (drop l.code-index l.codes)) l.rest ≡ bytes_eq (encode_utf8_all l.codes) l.text
