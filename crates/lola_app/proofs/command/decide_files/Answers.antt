use Rattle.std.proofs.Common.{◌≡◌, ℕ, List, Some, refl, subst, ◌∙◌, string_bytes}
use Rattle.std.specs.Prelude.{Option, IfSome}
use Rattle.lola_port.specs.Outside.{Files, lookup}
use Rattle.lola_app.specs.Decided.{IsDecided}
use Rattle.lola_app.specs.DecideReply.{decide_outcome}
use Rattle.lola_app.proofs.command.decide_files.Goals as goal

pub returns-in-Ok-decide_texts-clause-due : goal.returns-in-Ok-decide_texts-clause-due
returns-in-Ok-decide_texts-clause-due g c = record {
  source = c.in-Ok.text.items;
  table = c.in-Ok-read_text.text.items;
  asked = record {
    source_name = string_bytes c.args.source.now;
    table_name = string_bytes c.args.table.now;
    decide = refl;
    source_text = record { short = c.in-Ok.ensures.read.0; stands = c.in-Ok.ensures.read.1 };
    table_text = record {
      short = c.in-Ok-read_text.ensures.read.0;
      stands = subst (λ (told : Option Files). IfSome told (λ files. lookup files (string_bytes c.args.table.now) ≡ Some c.in-Ok-read_text.text.items)) c.in-Ok.ensures.files c.in-Ok-read_text.ensures.read.1;
    };
  };
  no_fault = λ name. c.in-Ok-read_text.ensures.read.2 name ∙ c.in-Ok.ensures.read.2 name;
  decided = subst (λ (text : List ℕ). IsDecided c.in-Ok.text.items text (decide_outcome c.in-Ok-decide_texts.reply)) c.as_slice-2.ensures.value
      (subst (λ (text : List ℕ). IsDecided text c.as_slice-2.result.now (decide_outcome c.in-Ok-decide_texts.reply)) c.as_slice.ensures.value c.in-Ok-decide_texts.ensures);
}
