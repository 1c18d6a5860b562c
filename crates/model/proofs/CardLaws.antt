-- The clerk's cards, by computation.
-- Assumes nothing.
use lib.Ieee as ieee
use mathlib.Core.Path.{refl}
use lib.Ieee.{is_nan, nan_bits, of_bits, to_bits}
use Rattle.model.specs.Classes.{class_sound, common, dominates, same, within}
use Rattle.model.specs.Values.{carried, carried_level, field_sound, fits, hide, is_hidden, kind_letter, mark, rate_of, same_value, value_sound}
use Rattle.model.specs.Parts.{table_at}
use Rattle.model.specs.Rules.{berth_ok, column_ok, column_sound, directory_ok, directory_plain, directory_sound, field_ok, field_plain, fields_ok, in_berth, plain, room_ok, row_ok, row_plain, row_sound, ruled, rules, same_berth, sound, table_ok, table_plain, table_sound, table_sounds, table_tests, value_ok}
use Rattle.model.specs.View.{cut, cut_directory, keep_table, open_table, seen, shut_table, view, view_column, view_columns, view_directory, view_field, view_fields, view_groups, view_row, view_table, view_tables}
use Rattle.model.specs.Replies.{accepts, number}
use Rattle.model.specs.Numbers.{dec_text, dec_value, digits, leads_well, num_from, places, read_dec, read_hex}
use Rattle.model.specs.Lines.{fields_of, is_text, join, line_of, lines, split, unlines, whole}
use Rattle.model.specs.Texts.{class_text, field_texts, marked_text, read_class, read_fields, read_letter, read_marked, read_value, value_text}
use Rattle.model.specs.Records.{directory_records, place, place_inside, place_part, place_table, records, row_record, spread, table_records}
use Rattle.model.specs.Sheets.{heading_text, judged, letter_byte, may_stand, part_fields, read_by, read_heading, read_lines, read_on, read_record, read_sheet, read_store, reading, record_fields, record_line, sheet_text, shows, store_text, table_fields}
use Rattle.model.specs.Rooms.{put_into, unwritten, writing, written}
use Rattle.model.specs.Commands.{client, read_action, read_changes, read_command, read_condition, read_givens, read_line, read_new, read_parts, read_plain, read_rows}
use Rattle.model.specs.Answers.{answer, answer_text, meets, numbered_from, shown_text, unknown}
use Rattle.model.specs.Checks.{allows, asks_misfit, asks_unseen, checks, misfit, names, new_fits, no_berth, no_column, no_row, own, same_column, same_place, table_checks, takes_from, uncovers, uncovers_at, unnamed}
use Rattle.model.specs.Effects.{amend, amend_row, change, change_directory, change_table, edit, entry_for, fill, given, lets, new_row, new_rows, put, renew, renew_all, strike, touch}
use Rattle.model.specs.Verdicts.{accept, after, answer_bytes, changed, decided, judge, judgement, line_store, line_verdict, outcome, says, verdict, verdict_on, viewed}
use Rattle.model.specs.Tapes.{answered, final, known, known_of, knows, log}
use Rattle.model.specs.Cards.{card_of, got, leaves, offered, store_of, stored, told, view_at, want}
use Rattle.model.specs.Claims.{Cards}

pub cards : Cards
unfolding within dominates same common class_sound mark kind_letter is_hidden fits rate_of value_sound field_sound carried carried_level same_value hide table_at berth_ok same_berth column_ok value_ok field_ok fields_ok row_ok in_berth room_ok table_tests table_ok directory_ok ruled column_sound row_sound table_sounds table_sound directory_sound sound rules field_plain row_plain table_plain directory_plain plain view_column seen view_groups view_columns view_field view_fields cut view_row open_table shut_table view_table keep_table view_tables cut_directory view_directory view number accepts num_from read_hex leads_well dec_value read_dec digits places dec_text split join fields_of line_of unlines whole lines is_text read_letter class_text read_class marked_text value_text read_marked read_value field_texts read_fields row_record table_records directory_records records spread place_inside place_table place_part place letter_byte table_fields part_fields record_fields read_by read_record record_line store_text read_on read_store heading_text read_heading shows sheet_text may_stand read_lines read_sheet judged reading written unwritten put_into writing client read_plain read_givens read_rows read_new read_changes read_condition read_action read_command read_parts read_line numbered_from unknown meets answer shown_text answer_text same_column same_place no_column no_row names unnamed new_fits misfit no_berth own takes_from allows uncovers_at uncovers asks_unseen asks_misfit checks table_checks touch edit given fill new_row strike entry_for put lets renew renew_all amend_row amend new_rows change_table change_directory change viewed says accept decided judge judgement changed line_verdict verdict line_store after verdict_on answer_bytes outcome answered log final knows known known_of store_of stored offered card_of told leaves view_at got want nan_bits is_nan of_bits to_bits ieee.fits
cards = refl
