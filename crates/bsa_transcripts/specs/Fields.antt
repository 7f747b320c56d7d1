-- The descriptor that a script sets. Its texts may fill their fields, so that its spelling is no descriptor's record.
use Rattle.std.specs.Prelude.{ℕ, List}
use Rattle.bsa_descriptor.specs.declared.descriptor.Descriptor.{Descriptor}
use Rattle.bsa_descriptor.specs.Descriptor.{empty_descriptor}
use Rattle.bsa_lines.specs.declared.settings.TextField.{TextField}
use Rattle.bsa_lines.specs.declared.settings.TextField.TheVariants.{BsaOwner, AppOwner, Space, Path, Resource, Description, Info}
use Rattle.bsa_lines.specs.Lines.{Line, set_text, set_order, set_size, set_copy_type, set_object_type, set_status, clear_line}
use Rattle.bsa_transcripts.specs.declared.fields.Fields.{Fields}

abbrev pub fields_of : Fields → Descriptor
fields_of fields = record {
  bsa_owner = fields.bsa_owner.items;
  app_owner = fields.app_owner.items;
  space = fields.space.items;
  path = fields.path.items;
  create_time = 0;
  copy = 0;
  restore_order = fields.restore_order;
  estimated_size = fields.estimated_size;
  copy_type = fields.copy_type;
  object_type = fields.object_type;
  status = fields.status;
  resource = fields.resource.items;
  description = fields.description.items;
  info = fields.info.items;
}

abbrev pub with_text : TextField → List ℕ → Descriptor → Descriptor
with_text BsaOwner value descriptor = record descriptor { bsa_owner = value }
with_text AppOwner value descriptor = record descriptor { app_owner = value }
with_text Space value descriptor = record descriptor { space = value }
with_text Path value descriptor = record descriptor { path = value }
with_text Resource value descriptor = record descriptor { resource = value }
with_text Description value descriptor = record descriptor { description = value }
with_text Info value descriptor = record descriptor { info = value }

-- the descriptor behind a line; a call leaves it as it is
abbrev pub after_line : Line → Descriptor → Descriptor
after_line (set_text field value) descriptor = with_text field value descriptor
after_line (set_order value) descriptor = record descriptor { restore_order = value }
after_line (set_size value) descriptor = record descriptor { estimated_size = value }
after_line (set_copy_type value) descriptor = record descriptor { copy_type = value }
after_line (set_object_type value) descriptor = record descriptor { object_type = value }
after_line (set_status value) descriptor = record descriptor { status = value }
after_line clear_line descriptor = empty_descriptor
after_line line descriptor = descriptor
