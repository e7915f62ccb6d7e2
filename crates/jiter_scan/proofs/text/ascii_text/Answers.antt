use Rattle.std.proofs.lemmas.Str.{IsUtf8-from_ascii}
use Rattle.jiter_scan.proofs.text.ascii_text.Goals as goal

pub utf8_text-requires : goal.utf8_text-requires
utf8_text-requires c = IsUtf8-from_ascii c.args.bytes.now c.requires
