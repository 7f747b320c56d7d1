-- The spelling of a descriptor, and its fields at their offsets.
use Rattle.std.proofs.Common.{◌≡◌, ℕ, List, [], ◌∷◌, ◌++◌, length, take, drop, replicate, All, Some, refl, sym, ap, ◌∙◌, arith}
use Rattle.std.proofs.lemmas.List.{take_all, length-append, length-replicate, length-drop}
use Rattle.std.proofs.Math.Seq.{take-add}
use Rattle.std.specs.Int.{to_be_bytes, w64}
use Rattle.bsa_descriptor.specs.declared.descriptor.Descriptor.{Descriptor}
use Rattle.bsa_descriptor.specs.declared.groups.Names.{Names}
use Rattle.bsa_descriptor.specs.declared.groups.Numbers.{Numbers}
use Rattle.bsa_descriptor.specs.declared.groups.Kinds.{Kinds}
use Rattle.bsa_descriptor.specs.declared.groups.Notes.{Notes}
use Rattle.bsa_descriptor.specs.declared.kinds.CopyType.{CopyType}
use Rattle.bsa_descriptor.specs.declared.kinds.CopyType.TheVariants as copy_type
use Rattle.bsa_descriptor.specs.declared.kinds.ObjectType.{ObjectType}
use Rattle.bsa_descriptor.specs.declared.kinds.ObjectType.TheVariants as object_type
use Rattle.bsa_descriptor.specs.declared.kinds.ObjectStatus.{ObjectStatus}
use Rattle.bsa_descriptor.specs.declared.kinds.ObjectStatus.TheVariants as status
use Rattle.bsa_descriptor.specs.Kinds.{copy_type_code, object_type_code, status_code}
use Rattle.byte_fields.specs.Fields.{field, padded, HasNumber}
use Rattle.byte_fields.proofs.FieldLemmas.{replicate-zeros, zeros-replicate, last_field, length-padded, one_text, one_number}
use Rattle.bsa_descriptor.specs.Text.{IsText}
use Rattle.bsa_descriptor.specs.Groups.{TextAt, NamesAt, NumbersAt, KindsAt, NotesAt}
use Rattle.bsa_descriptor.specs.Descriptor.{IsDescriptor, spelling}
use Rattle.bsa_descriptor.proofs.TextLemmas.{HasText-TextAt}

-- the descriptor of these groups
abbrev pub joined : Names → Numbers → Kinds → Notes → Descriptor
joined names numbers kinds notes = record {
  bsa_owner = names.bsa_owner;
  app_owner = names.app_owner;
  space = names.space;
  path = names.path;
  create_time = numbers.create_time;
  copy = numbers.copy;
  restore_order = numbers.restore_order;
  estimated_size = numbers.estimated_size;
  copy_type = kinds.copy_type;
  object_type = kinds.object_type;
  status = kinds.status;
  resource = notes.resource;
  description = notes.description;
  info = notes.info;
}

-- the groups of a descriptor
abbrev pub names_in : Descriptor → Names
names_in d = record { bsa_owner = d.bsa_owner; app_owner = d.app_owner; space = d.space; path = d.path }

abbrev pub numbers_in : Descriptor → Numbers
numbers_in d = record { create_time = d.create_time; copy = d.copy; restore_order = d.restore_order; estimated_size = d.estimated_size }

abbrev pub kinds_in : Descriptor → Kinds
kinds_in d = record { copy_type = d.copy_type; object_type = d.object_type; status = d.status }

abbrev pub notes_in : Descriptor → Notes
notes_in d = record { resource = d.resource; description = d.description; info = d.info }

pub IsDescriptor-joined : (bytes : List ℕ) (names : Names) (numbers : Numbers) (kinds : Kinds) (notes : Notes)
    → NamesAt bytes names → NumbersAt bytes numbers → NotesAt bytes notes → IsDescriptor (joined names numbers kinds notes)
IsDescriptor-joined bytes names numbers kinds notes first second last = record {
  bsa_owner = first.bsa_owner.is_text;
  app_owner = first.app_owner.is_text;
  space = first.space.is_text;
  path = first.path.is_text;
  create_time = second.create_time.fits;
  copy = second.copy.fits;
  restore_order = second.restore_order.fits;
  estimated_size = second.estimated_size.fits;
  resource = last.resource.is_text;
  description = last.description.is_text;
  info = last.info.is_text;
}

-- zeros to the end are the last field
pub zeros_at : (bytes : List ℕ) → length bytes ≡ 2624 → All (λ byte. byte ≡ 0) (drop 2598 bytes) → field 2598 26 bytes ≡ replicate 26 0
zeros_at bytes fills zeros = ap (take 26) (replicate-zeros 26 (drop 2598 bytes) (omega (arith, length-drop 2598 bytes, fills)) zeros)

-- bytes whose fields stand at their offsets are the spelling of the descriptor that these make
pub spelling-joined : (bytes : List ℕ) (names : Names) (numbers : Numbers) (kinds : Kinds) (notes : Notes) → length bytes ≡ 2624
    → NamesAt bytes names → NumbersAt bytes numbers → KindsAt bytes kinds → NotesAt bytes notes → All (λ byte. byte ≡ 0) (drop 2598 bytes)
    → bytes ≡ spelling (joined names numbers kinds notes)
unfolding spelling
spelling-joined bytes names numbers kinds notes fills first second third last zeros =
    let whole : take 2624 bytes ≡ bytes = take_all 2624 bytes (omega arith) in
    rw (
      ← whole,
      take-add 2598 26 bytes,
      zeros_at bytes fills zeros,
      take-add 2342 256 bytes,
      last.info.stands,
      take-add 2242 100 bytes,
      last.description.stands,
      take-add 2211 31 bytes,
      last.resource.stands,
      take-add 2210 1 bytes,
      third.status,
      take-add 2209 1 bytes,
      third.object_type,
      take-add 2208 1 bytes,
      third.copy_type,
      take-add 2200 8 bytes,
      second.estimated_size.stands,
      take-add 2192 8 bytes,
      second.restore_order.stands,
      take-add 2184 8 bytes,
      second.copy.stands,
      take-add 2176 8 bytes,
      second.create_time.stands,
      take-add 1152 1024 bytes,
      first.path.stands,
      take-add 128 1024 bytes,
      first.space.stands,
      take-add 64 64 bytes,
      first.app_owner.stands,
      first.bsa_owner.stands,
    ) refl

length-field : (width : ℕ) (text : List ℕ) → IsText width text → length (padded width text) ≡ width
length-field width text is_text = length-padded width text (omega (arith, is_text.shorter))

-- what stands before each field
abbrev through_bsa_owner : Descriptor → List ℕ
through_bsa_owner d = padded 64 d.bsa_owner

abbrev through_app_owner : Descriptor → List ℕ
through_app_owner d = through_bsa_owner d ++ padded 64 d.app_owner

abbrev through_space : Descriptor → List ℕ
through_space d = through_app_owner d ++ padded 1024 d.space

abbrev through_path : Descriptor → List ℕ
through_path d = through_space d ++ padded 1024 d.path

abbrev through_create_time : Descriptor → List ℕ
through_create_time d = through_path d ++ to_be_bytes w64 d.create_time

abbrev through_copy : Descriptor → List ℕ
through_copy d = through_create_time d ++ to_be_bytes w64 d.copy

abbrev through_restore_order : Descriptor → List ℕ
through_restore_order d = through_copy d ++ to_be_bytes w64 d.restore_order

abbrev through_estimated_size : Descriptor → List ℕ
through_estimated_size d = through_restore_order d ++ to_be_bytes w64 d.estimated_size

abbrev through_copy_type : Descriptor → List ℕ
through_copy_type d = through_estimated_size d ++ (copy_type_code d.copy_type ∷ [])

abbrev through_object_type : Descriptor → List ℕ
through_object_type d = through_copy_type d ++ (object_type_code d.object_type ∷ [])

abbrev through_status : Descriptor → List ℕ
through_status d = through_object_type d ++ (status_code d.status ∷ [])

abbrev through_resource : Descriptor → List ℕ
through_resource d = through_status d ++ padded 31 d.resource

abbrev through_description : Descriptor → List ℕ
through_description d = through_resource d ++ padded 100 d.description

abbrev through_info : Descriptor → List ℕ
through_info d = through_description d ++ padded 256 d.info

-- the fields of a descriptor stand at their offsets
pub record FieldsAt (bytes : List ℕ) (d : Descriptor) : Type 0 where
  pub names : NamesAt bytes (names_in d)
  pub numbers : NumbersAt bytes (numbers_in d)
  pub kinds : KindsAt bytes (kinds_in d)
  pub notes : NotesAt bytes (notes_in d)
  pub zeros : All (λ byte. byte ≡ 0) (drop 2598 bytes)

-- the last field of zeros has nothing else behind its offset
only_zeros : (bytes : List ℕ) → length bytes ≡ 2624 → field 2598 26 bytes ≡ replicate 26 0 → All (λ byte. byte ≡ 0) (drop 2598 bytes)
only_zeros bytes fills zeros =
    let whole : field 2598 26 bytes ≡ drop 2598 bytes = take_all 26 (drop 2598 bytes) (omega (arith, length-drop 2598 bytes)) in
    zeros-replicate 26 (drop 2598 bytes) (sym whole ∙ zeros)

-- the spelling of a descriptor has its fields at their offsets
pub FieldsAt-spelling : (bytes : List ℕ) (d : Descriptor) → length bytes ≡ 2624 → IsDescriptor d → bytes ≡ spelling d → FieldsAt bytes d
unfolding spelling
FieldsAt-spelling bytes d fills fits e =
    let zeros = last_field 2598 26 bytes (through_info d) (replicate 26 0) (omega arith) refl (take_all 2624 bytes (omega arith) ∙ e) in
    let info = last_field 2342 256 bytes (through_description d) (padded 256 d.info) (omega arith) (length-field 256 d.info fits.info) zeros.0 in
    let description = last_field 2242 100 bytes (through_resource d) (padded 100 d.description) (omega arith) (length-field 100 d.description fits.description) info.0 in
    let resource = last_field 2211 31 bytes (through_status d) (padded 31 d.resource) (omega arith) (length-field 31 d.resource fits.resource) description.0 in
    let status = last_field 2210 1 bytes (through_object_type d) (status_code d.status ∷ []) (omega arith) refl resource.0 in
    let object_type = last_field 2209 1 bytes (through_copy_type d) (object_type_code d.object_type ∷ []) (omega arith) refl status.0 in
    let copy_type = last_field 2208 1 bytes (through_estimated_size d) (copy_type_code d.copy_type ∷ []) (omega arith) refl object_type.0 in
    let estimated_size = last_field 2200 8 bytes (through_restore_order d) (to_be_bytes w64 d.estimated_size) (omega arith) refl copy_type.0 in
    let restore_order = last_field 2192 8 bytes (through_copy d) (to_be_bytes w64 d.restore_order) (omega arith) refl estimated_size.0 in
    let copy = last_field 2184 8 bytes (through_create_time d) (to_be_bytes w64 d.copy) (omega arith) refl restore_order.0 in
    let create_time = last_field 2176 8 bytes (through_path d) (to_be_bytes w64 d.create_time) (omega arith) refl copy.0 in
    let path = last_field 1152 1024 bytes (through_space d) (padded 1024 d.path) (omega arith) (length-field 1024 d.path fits.path) create_time.0 in
    let space = last_field 128 1024 bytes (through_app_owner d) (padded 1024 d.space) (omega arith) (length-field 1024 d.space fits.space) path.0 in
    let app_owner = last_field 64 64 bytes (through_bsa_owner d) (padded 64 d.app_owner) (omega arith) (length-field 64 d.app_owner fits.app_owner) space.0 in
    let bsa_owner = last_field 0 64 bytes [] (padded 64 d.bsa_owner) (omega arith) (length-field 64 d.bsa_owner fits.bsa_owner) app_owner.0 in
    record {
      names = record {
        bsa_owner = record { is_text = fits.bsa_owner; stands = bsa_owner.1 };
        app_owner = record { is_text = fits.app_owner; stands = app_owner.1 };
        space = record { is_text = fits.space; stands = space.1 };
        path = record { is_text = fits.path; stands = path.1 };
      };
      numbers = record {
        create_time = record { fits = fits.create_time; stands = create_time.1 };
        copy = record { fits = fits.copy; stands = copy.1 };
        restore_order = record { fits = fits.restore_order; stands = restore_order.1 };
        estimated_size = record { fits = fits.estimated_size; stands = estimated_size.1 };
      };
      kinds = record {
        copy_type = copy_type.1;
        object_type = object_type.1;
        status = status.1;
      };
      notes = record {
        resource = record { is_text = fits.resource; stands = resource.1 };
        description = record { is_text = fits.description; stands = description.1 };
        info = record { is_text = fits.info; stands = info.1 };
      };
      zeros = only_zeros bytes fills zeros.1;
    }

-- a descriptor is made of its groups
pub Some-joined : (names : Names) (numbers : Numbers) (kinds : Kinds) (notes : Notes) (d : Descriptor)
    → Some names ≡ Some (names_in d) → numbers ≡ numbers_in d → Some kinds ≡ Some (kinds_in d) → Some notes ≡ Some (notes_in d)
    → Some (joined names numbers kinds notes) ≡ Some d
Some-joined names numbers kinds notes d first second third last =
    let a : names ≡ names_in d = cc in
    let b : kinds ≡ kinds_in d = cc in
    let f : notes ≡ notes_in d = cc in
    rw (a, second, b, f) refl

text_once : (at width : ℕ) (bytes text other : List ℕ) → TextAt at width bytes text → TextAt at width bytes other → text ≡ other
text_once at width bytes text other h k = one_text at width bytes text other (HasText-TextAt at width bytes text h) (HasText-TextAt at width bytes other k)

number_once : (at : ℕ) (bytes : List ℕ) (number other : ℕ) → HasNumber w64 at bytes number → HasNumber w64 at bytes other → number ≡ other
number_once at bytes number other h k = one_number w64 at bytes number other (omega arith) h k

copy_type_once : (a b : CopyType) → copy_type_code a ≡ copy_type_code b → a ≡ b
copy_type_once copy_type.Any copy_type.Any e = refl
copy_type_once copy_type.Archive copy_type.Archive e = refl
copy_type_once copy_type.Backup copy_type.Backup e = refl
copy_type_once _ _ e = cc

object_type_once : (a b : ObjectType) → object_type_code a ≡ object_type_code b → a ≡ b
object_type_once object_type.Any object_type.Any e = refl
object_type_once object_type.Database object_type.Database e = refl
object_type_once object_type.Log object_type.Log e = refl
object_type_once _ _ e = cc

status_once : (a b : ObjectStatus) → status_code a ≡ status_code b → a ≡ b
status_once status.Any status.Any e = refl
status_once status.MostRecent status.MostRecent e = refl
status_once status.NotMostRecent status.NotMostRecent e = refl
status_once _ _ e = cc

one_byte : (a b : ℕ) → a ∷ [] ≡ b ∷ [] → a ≡ b
one_byte a b e = cc

-- each group stands at its offsets once
names_once : (bytes : List ℕ) (d other : Descriptor) → NamesAt bytes (names_in d) → NamesAt bytes (names_in other) → names_in d ≡ names_in other
names_once bytes d other h k =
    let a = text_once 0 64 bytes d.bsa_owner other.bsa_owner h.bsa_owner k.bsa_owner in
    let b = text_once 64 64 bytes d.app_owner other.app_owner h.app_owner k.app_owner in
    let f = text_once 128 1024 bytes d.space other.space h.space k.space in
    let g = text_once 1152 1024 bytes d.path other.path h.path k.path in
    rw (a, b, f, g) refl

numbers_once : (bytes : List ℕ) (d other : Descriptor) → NumbersAt bytes (numbers_in d) → NumbersAt bytes (numbers_in other) → numbers_in d ≡ numbers_in other
numbers_once bytes d other h k =
    let a = number_once 2176 bytes d.create_time other.create_time h.create_time k.create_time in
    let b = number_once 2184 bytes d.copy other.copy h.copy k.copy in
    let f = number_once 2192 bytes d.restore_order other.restore_order h.restore_order k.restore_order in
    let g = number_once 2200 bytes d.estimated_size other.estimated_size h.estimated_size k.estimated_size in
    rw (a, b, f, g) refl

kinds_once : (bytes : List ℕ) (d other : Descriptor) → KindsAt bytes (kinds_in d) → KindsAt bytes (kinds_in other) → kinds_in d ≡ kinds_in other
kinds_once bytes d other h k =
    let a = copy_type_once d.copy_type other.copy_type (one_byte _ _ (sym h.copy_type ∙ k.copy_type)) in
    let b = object_type_once d.object_type other.object_type (one_byte _ _ (sym h.object_type ∙ k.object_type)) in
    let f = status_once d.status other.status (one_byte _ _ (sym h.status ∙ k.status)) in
    rw (a, b, f) refl

notes_once : (bytes : List ℕ) (d other : Descriptor) → NotesAt bytes (notes_in d) → NotesAt bytes (notes_in other) → notes_in d ≡ notes_in other
notes_once bytes d other h k =
    let a = text_once 2211 31 bytes d.resource other.resource h.resource k.resource in
    let b = text_once 2242 100 bytes d.description other.description h.description k.description in
    let f = text_once 2342 256 bytes d.info other.info h.info k.info in
    rw (a, b, f) refl

-- no two descriptors have one spelling
pub spelling_once : (bytes : List ℕ) (d other : Descriptor) → length bytes ≡ 2624 → IsDescriptor d → IsDescriptor other → bytes ≡ spelling d → bytes ≡ spelling other → other ≡ d
spelling_once bytes d other fills is_d is_other e f =
    let h : FieldsAt bytes d = FieldsAt-spelling bytes d fills is_d e in
    let k : FieldsAt bytes other = FieldsAt-spelling bytes other fills is_other f in
    let same : Some (joined (names_in other) (numbers_in other) (kinds_in other) (notes_in other)) ≡ Some d =
    Some-joined (names_in other) (numbers_in other) (kinds_in other) (notes_in other) d
    (ap Some (names_once bytes other d k.names h.names)) (numbers_once bytes other d k.numbers h.numbers)
    (ap Some (kinds_once bytes other d k.kinds h.kinds)) (ap Some (notes_once bytes other d k.notes h.notes)) in
    cc

-- how long a record is, for layouts that hold one
pub length-spelling : (d : Descriptor) → IsDescriptor d → length (spelling d) ≡ 2624
unfolding spelling
length-spelling d is = omega (arith, length-append {A = ℕ}, length-replicate {A = ℕ})
